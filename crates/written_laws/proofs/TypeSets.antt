-- Lists of types and of methods, taken as sets.
use Rattle.std.proofs.Common.{◌≡◌, ℕ, ◌<◌, List, [], ◌∷◌, length, get_or, filter, Bool, true, false, cond, not, ◌&&◌, ◌||◌, refl, sym, ap, ◌∙◌, arith}
use Rattle.std.specs.List.{list_all, list_any}
use Rattle.std.proofs.lemmas.Bool.{eqb-true, true≢false}
use Rattle.dnr_base.specs.declared.kind.Kind.{Kind}
use Rattle.dnr_base.specs.declared.kind.Kind.TheVariants as kind
use Rattle.dnr_base.specs.Kind.{all_kinds, default_kinds, place_of, same_kind, has_kind}
use Rattle.dnr_base.specs.declared.method.Method.{Method}
use Rattle.dnr_base.specs.declared.method.Method.TheVariants as method
use Rattle.dnr_base.specs.Method.{all_methods, same_method, has_method}
use Rattle.dnr_base.specs.Method as methods
use Rattle.dnr_base.proofs.KindSets.{has_kind-all_kinds}
use Rattle.dnr_base.proofs.MethodSets.{has_method-all_methods}
use Rattle.json_spec.specs.RuleFields.{kind_set, method_set}
use Rattle.json_spec.specs.Written.{are_default}
use Rattle.written_laws.proofs.Sets.{both}

-- ---- tests of lists

any_kept : {X : Type 0} (test same : X → Bool) (x : X) → ((y : X) → same y ≡ true → x ≡ y) → (list : List X) → list_any same (filter test list) ≡ (test x && list_any same list)
any_kept test same x is [] = nothing (test x)
  where
    nothing : (b : Bool) → false ≡ (b && false)
    nothing true = refl
    nothing false = refl
any_kept test same x is (y ∷ list) = by (test y) (same y) (test x) refl refl refl (any_kept test same x is list)
  where
    by : (a b e : Bool) → test y ≡ a → same y ≡ b → test x ≡ e → list_any same (filter test list) ≡ (e && list_any same list) → list_any same (cond a (y ∷ filter test list) (filter test list)) ≡ (e && (b || list_any same list))
    by true true true p q r h = rw q refl
    by true true false p q r h = absurd (true≢false (sym p ∙ ap test (sym (is y q)) ∙ r))
    by true false e p q r h = rw q h
    by false true true p q r h = absurd (true≢false (sym r ∙ ap test (is y q) ∙ p))
    by false true false p q r h = h
    by false false e p q r h = h

pub filter_all : {X : Type 0} (test : X → Bool) (list : List X) → list_all test list ≡ true → filter test list ≡ list
filter_all test [] h = refl
filter_all test (x ∷ list) h =
    let p = both (test x) (list_all test list) h in
    ap (λ b. cond b (x ∷ filter test list) (filter test list)) p.0 ∙ ap (λ l. x ∷ l) (filter_all test list p.1)

-- ---- types

kind_at : ℕ → Kind
kind_at n = get_or all_kinds n kind.Other

at_place : (k : Kind) → kind_at (place_of k) ≡ k
unfolding kind_at
at_place kind.MainFrame = refl
at_place kind.SubFrame = refl
at_place kind.Stylesheet = refl
at_place kind.Script = refl
at_place kind.Image = refl
at_place kind.Font = refl
at_place kind.Object = refl
at_place kind.XmlHttpRequest = refl
at_place kind.Ping = refl
at_place kind.CspReport = refl
at_place kind.Media = refl
at_place kind.WebSocket = refl
at_place kind.WebTransport = refl
at_place kind.WebBundle = refl
at_place kind.Other = refl

pub one_kind : (a b : Kind) → same_kind a b ≡ true → a ≡ b
one_kind a b h = sym (at_place a) ∙ ap kind_at (eqb-true (place_of a) (place_of b) h) ∙ at_place b

pub same_kind-itself : (k : Kind) → same_kind k k ≡ true
same_kind-itself kind.MainFrame = refl
same_kind-itself kind.SubFrame = refl
same_kind-itself kind.Stylesheet = refl
same_kind-itself kind.Script = refl
same_kind-itself kind.Image = refl
same_kind-itself kind.Font = refl
same_kind-itself kind.Object = refl
same_kind-itself kind.XmlHttpRequest = refl
same_kind-itself kind.Ping = refl
same_kind-itself kind.CspReport = refl
same_kind-itself kind.Media = refl
same_kind-itself kind.WebSocket = refl
same_kind-itself kind.WebTransport = refl
same_kind-itself kind.WebBundle = refl
same_kind-itself kind.Other = refl

and_true : (b : Bool) → (b && true) ≡ b
and_true true = refl
and_true false = refl

-- the set has the types of its list
pub has_kind-set : (kinds : List Kind) (k : Kind) → has_kind (kind_set kinds) k ≡ has_kind kinds k
has_kind-set kinds k =
    any_kept (has_kind kinds) (same_kind k) k (one_kind k) all_kinds ∙ ap (λ b. has_kind kinds k && b) (has_kind-all_kinds k) ∙ and_true (has_kind kinds k)

pub kind_set-set : (kinds : List Kind) → kind_set (kind_set kinds) ≡ kind_set kinds
kind_set-set kinds = λ i. filter (λ k. has_kind-set kinds k i) all_kinds

-- all types but `main_frame`
pub default_set : (kinds : List Kind) → are_default kinds ≡ true → kind_set kinds ≡ default_kinds
default_set kinds h =
    let p = both (not (has_kind kinds kind.MainFrame)) (list_all (has_kind kinds) default_kinds) h in
    ap (λ b. cond b (kind.MainFrame ∷ filter (has_kind kinds) default_kinds) (filter (has_kind kinds) default_kinds)) (not_there (has_kind kinds kind.MainFrame) p.0)
    ∙ filter_all (has_kind kinds) default_kinds p.1
  where
    not_there : (b : Bool) → not b ≡ true → b ≡ false
    not_there true e = cc
    not_there false e = refl

-- ---- methods

method_at : ℕ → Method
method_at n = get_or all_methods n method.Other

at_method_place : (m : Method) → method_at (methods.place_of m) ≡ m
unfolding method_at
at_method_place method.Connect = refl
at_method_place method.Delete = refl
at_method_place method.Get = refl
at_method_place method.Head = refl
at_method_place method.Options = refl
at_method_place method.Patch = refl
at_method_place method.Post = refl
at_method_place method.Put = refl
at_method_place method.Other = refl

one_method : (a b : Method) → same_method a b ≡ true → a ≡ b
one_method a b h = sym (at_method_place a) ∙ ap method_at (eqb-true (methods.place_of a) (methods.place_of b) h) ∙ at_method_place b

pub has_method-set : (list : List Method) (m : Method) → has_method (method_set list) m ≡ has_method list m
has_method-set list m =
    any_kept (has_method list) (same_method m) m (one_method m) all_methods ∙ ap (λ b. has_method list m && b) (has_method-all_methods m) ∙ and_true (has_method list m)

pub method_set-set : (list : List Method) → method_set (method_set list) ≡ method_set list
method_set-set list = λ i. filter (λ m. has_method-set list m i) all_methods

-- the set of a list that is not empty is not empty
some_there : (list : List Method) (m : Method) → has_method list m ≡ true → 0 < length list
some_there [] m h = absurd (true≢false (sym h))
some_there (n ∷ list) m h = omega arith

same_itself : (m : Method) → same_method m m ≡ true
same_itself method.Connect = refl
same_itself method.Delete = refl
same_itself method.Get = refl
same_itself method.Head = refl
same_itself method.Options = refl
same_itself method.Patch = refl
same_itself method.Post = refl
same_itself method.Put = refl
same_itself method.Other = refl

pub method_set_some : (list : List Method) → 0 < length list → 0 < length (method_set list)
method_set_some [] h = absurd (omega arith)
method_set_some (m ∷ list) h =
    some_there (method_set (m ∷ list)) m (has_method-set (m ∷ list) m ∙ ap (λ b. b || has_method list m) (same_itself m))
