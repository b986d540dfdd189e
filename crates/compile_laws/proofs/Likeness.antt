-- Filters that are alike.
use Rattle.std.proofs.Common.{◌≡◌, ℕ, zero, suc, List, [], ◌∷◌, Bool, true, false, ◌&&◌, Option, Some, None, refl, sym, ap, ◌∙◌}
use Rattle.std.specs.Prelude.{slice_get, is_some}
use Rattle.std.specs.List.{list_all}
use Rattle.std.specs.Cmp.Lexicographic.{pointwise, pointwise_decides}
use Rattle.std.specs.Option.{option_eq}
use Rattle.std.specs.Str.{bytes_eq}
use Rattle.std.proofs.lemmas.Bool.{and_parts, and_from}
use Rattle.std.proofs.lemmas.Slice.Eq.{bytes_eq-Decides}
use Rattle.dnr_base.specs.declared.kind.Kind.{Kind}
use Rattle.dnr_base.specs.declared.kind.Kind.TheVariants.{MainFrame, SubFrame, Stylesheet, Script, Image, Font, Object, XmlHttpRequest, Ping, CspReport, Media, WebSocket, WebTransport, WebBundle, Other}
use Rattle.dnr_base.specs.Kind.{all_kinds, place_of, has_kind}
use Rattle.list_spec.specs.LineKind.{FilterLine}
use Rattle.compile_spec.specs.Alike.{plain_domain, set_of_entries, same_answer, same_types, agree, alike}

-- ---- tests of equality

same_answers : (one other : Bool) → same_answer one other ≡ true → one ≡ other
same_answers true true h = refl
same_answers true false h = cc
same_answers false true h = cc
same_answers false false h = refl

same_parties : (one other : Option Bool) → option_eq same_answer one other ≡ true → one ≡ other
same_parties None None h = refl
same_parties None (Some y) h = cc
same_parties (Some x) None h = cc
same_parties (Some x) (Some y) h = ap Some (same_answers x y h)

answer_itself : (one : Bool) → same_answer one one ≡ true
answer_itself true = refl
answer_itself false = refl

party_itself : (one : Option Bool) → option_eq same_answer one one ≡ true
party_itself None = refl
party_itself (Some x) = answer_itself x

kind_at_place : (kind : Kind) → slice_get all_kinds (place_of kind) ≡ Some kind
kind_at_place MainFrame = refl
kind_at_place SubFrame = refl
kind_at_place Stylesheet = refl
kind_at_place Script = refl
kind_at_place Image = refl
kind_at_place Font = refl
kind_at_place Object = refl
kind_at_place XmlHttpRequest = refl
kind_at_place Ping = refl
kind_at_place CspReport = refl
kind_at_place Media = refl
kind_at_place WebSocket = refl
kind_at_place WebTransport = refl
kind_at_place WebBundle = refl
kind_at_place Other = refl

some_same : {X : Type 0} {x y : X} → Some x ≡ Some y → x ≡ y
some_same h = cc

passes_at : {X : Type 0} (test : X → Bool) (xs : List X) (place : ℕ) (x : X) → list_all test xs ≡ true → slice_get xs place ≡ Some x → test x ≡ true
passes_at test [] place x h at = cc
passes_at test (y ∷ ys) zero x h at = ap test (some_same (sym at)) ∙ (and_parts (test y) (list_all test ys) h).0
passes_at test (y ∷ ys) (suc place) x h at = passes_at test ys place x (and_parts (test y) (list_all test ys) h).1 at

types_same : (one other : List Kind) → same_types one other ≡ true → (kind : Kind) → has_kind one kind ≡ has_kind other kind
types_same one other h kind =
    same_answers (has_kind one kind) (has_kind other kind) (passes_at (λ k. same_answer (has_kind one k) (has_kind other k)) all_kinds (place_of kind) kind h (kind_at_place kind))

types_itself : (one : List Kind) → same_types one one ≡ true
types_itself one = go all_kinds
  where
    go : (kinds : List Kind) → list_all (λ kind. same_answer (has_kind one kind) (has_kind one kind)) kinds ≡ true
    go [] = refl
    go (kind ∷ kinds) = and_from _ _ (answer_itself (has_kind one kind)) (go kinds)

-- ---- what alike filters have in common

pub record Agrees (one other : FilterLine) : Type 0 where
  pub exception : one.exception ≡ other.exception
  pub third_party : one.third_party ≡ other.third_party
  pub kinds : (kind : Kind) → has_kind one.kinds kind ≡ has_kind other.kinds kind
  pub document : one.document ≡ other.document
  pub domains : set_of_entries one.domains ≡ set_of_entries other.domains

pub reads_agree : (one other : FilterLine) → agree one other ≡ true → Agrees one other
reads_agree one other h =
    let e = same_answer one.exception other.exception in
    let p = option_eq same_answer one.third_party other.third_party in
    let k = same_types one.kinds other.kinds in
    let d = same_answer one.document other.document in
    let s = pointwise bytes_eq (set_of_entries one.domains) (set_of_entries other.domains) in
    let a = and_parts (e && p && k && d) s h in
    let b = and_parts (e && p && k) d a.0 in
    let c = and_parts (e && p) k b.0 in
    let f = and_parts e p c.0 in
    record {
      exception = same_answers one.exception other.exception f.0;
      third_party = same_parties one.third_party other.third_party f.1;
      kinds = types_same one.kinds other.kinds c.1;
      document = same_answers one.document other.document b.1;
      domains = (pointwise_decides bytes_eq-Decides (set_of_entries one.domains) (set_of_entries other.domains)).0 a.1;
    }

pub agree_itself : (one : FilterLine) → agree one one ≡ true
agree_itself one =
    let e = same_answer one.exception one.exception in
    let p = option_eq same_answer one.third_party one.third_party in
    let k = same_types one.kinds one.kinds in
    let d = same_answer one.document one.document in
    let s = pointwise bytes_eq (set_of_entries one.domains) (set_of_entries one.domains) in
    and_from (e && p && k && d) s
    (and_from (e && p && k) d
    (and_from (e && p) k (and_from e p (answer_itself one.exception) (party_itself one.third_party)) (types_itself one.kinds))
    (answer_itself one.document))
    ((pointwise_decides bytes_eq-Decides (set_of_entries one.domains) (set_of_entries one.domains)).1 refl)

-- equal in what counts, they agree with the same filters
agree_alike : (one other third : FilterLine) → Agrees one other → agree one third ≡ agree other third
agree_alike one other third a = λ i.
    same_answer (a.exception i) third.exception && option_eq same_answer (a.third_party i) third.third_party && list_all (λ kind. same_answer (a.kinds kind i) (has_kind third.kinds kind)) all_kinds && same_answer (a.document i) third.document
    && pointwise bytes_eq (a.domains i) (set_of_entries third.domains)

agree_turned : (one other : FilterLine) → Agrees one other → agree other one ≡ true
agree_turned one other a = sym (agree_alike one other one a) ∙ agree_itself one

-- ---- alike filters

pub record IsAlike (one other : FilterLine) : Type 0 where
  pub one_plain : is_some (plain_domain one.pattern) ≡ true
  pub other_plain : is_some (plain_domain other.pattern) ≡ true
  pub agrees : Agrees one other

pub reads_alike : (one other : FilterLine) → alike one other ≡ true → IsAlike one other
reads_alike one other h =
    let a = and_parts (is_some (plain_domain one.pattern) && is_some (plain_domain other.pattern)) (agree one other) h in
    let b = and_parts (is_some (plain_domain one.pattern)) (is_some (plain_domain other.pattern)) a.0 in
    record { one_plain = b.0; other_plain = b.1; agrees = reads_agree one other a.1 }

is_alike : (one other : FilterLine) → is_some (plain_domain one.pattern) ≡ true → is_some (plain_domain other.pattern) ≡ true → agree one other ≡ true → alike one other ≡ true
is_alike one other a b c =
    and_from (is_some (plain_domain one.pattern) && is_some (plain_domain other.pattern)) (agree one other) (and_from (is_some (plain_domain one.pattern)) (is_some (plain_domain other.pattern)) a b) c

pub alike_turned : (one other : FilterLine) → alike one other ≡ true → alike other one ≡ true
alike_turned one other h = let a = reads_alike one other h in is_alike other one a.other_plain a.one_plain (agree_turned one other a.agrees)

pub alike_through : (one other third : FilterLine) → alike one other ≡ true → alike other third ≡ true → alike one third ≡ true
alike_through one other third h g =
    let a = reads_alike one other h in
    let b = reads_alike other third g in
    let parts = and_parts (is_some (plain_domain other.pattern) && is_some (plain_domain third.pattern)) (agree other third) g in
    is_alike one third a.one_plain b.other_plain (agree_alike one other third a.agrees ∙ parts.1)
