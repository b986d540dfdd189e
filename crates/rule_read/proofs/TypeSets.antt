-- Sets of types as lists: all but some, and frames alone.
use Rattle.std.proofs.Common.{◌≡◌, ◌<◌, ◌+◌, ◌||◌, ◌&&◌, ◌==◌, ℕ, List, [], ◌∷◌, length, take, get_or, Bool, true, false, not, filter, refl, sym, ap, ◌∙◌, ⊎_elim, arith}
use Rattle.std.proofs.Math.Path.{fun_ext}
use Rattle.std.proofs.lemmas.Bool.{cases_Bool, true≢false}
use Rattle.std.proofs.lemmas.Bool.Decides.{nat_tests}
use Rattle.std.proofs.lemmas.List.Folds.{list_any_more}
use Rattle.std.specs.List.{list_all, list_any}
use Rattle.dnr_base.specs.declared.kind.Kind.{Kind}
use Rattle.dnr_base.specs.declared.kind.Kind.TheVariants.{MainFrame, SubFrame}
use Rattle.dnr_base.specs.Kind.{all_kinds, place_of, same_kind, has_kind}
use Rattle.rule_spec.specs.IsRule.{is_frame_kind}

turned : (m n : ℕ) → (m == n) ≡ (n == m)
turned m n = grind (arith, nat_tests)

one_place : (a b : Kind) → same_kind a b ≡ true → place_of a ≡ place_of b
one_place a b h = let e : (place_of a == place_of b) ≡ true = h in grind (arith, nat_tests, e)

same_has : (kinds : List Kind) (a b : Kind) → same_kind a b ≡ true → has_kind kinds a ≡ has_kind kinds b
same_has kinds a b h = ap (λ place. list_any (λ other. place == place_of other) kinds) (one_place a b h)

-- ---- all but some

-- all types but those that are in both lists
pub record IsAllBut (kinds passed excluded : List Kind) : Type 0 where
  pub listed : kinds ≡ filter (λ kind. not (has_kind passed kind && has_kind excluded kind)) all_kinds
  pub same : (kind : Kind) → has_kind kinds kind ≡ not (has_kind passed kind && has_kind excluded kind)

pub all_begins : (kinds excluded : List Kind) → kinds ≡ all_kinds → ((kind : Kind) → has_kind kinds kind ≡ true) → IsAllBut kinds [] excluded
all_begins kinds excluded listed has = record { listed = listed; same = has }

removed_bool : (s p e : Bool) → (s ≡ true → e ≡ true) → (not s && not (p && e)) ≡ not ((p || s) && e)
removed_bool true true true h = refl
removed_bool true false true h = refl
removed_bool true p false h = absurd (true≢false (sym (h refl)))
removed_bool false true e h = refl
removed_bool false false e h = refl

kept_bool : (s p e : Bool) → (s ≡ true → e ≡ false) → not (p && e) ≡ not ((p || s) && e)
kept_bool true p true h = absurd (true≢false (h refl))
kept_bool true true false h = refl
kept_bool true false false h = refl
kept_bool false true e h = refl
kept_bool false false e h = refl

passed_more : (all : List Kind) (i : ℕ) (kind other : Kind) → i < length all → kind ≡ get_or all i kind → has_kind (take (i + 1) all) other ≡ (has_kind (take i all) other || same_kind kind other)
passed_more all i kind other inside is =
    list_any_more (λ k. same_kind other k) all i kind inside
    ∙ ap (λ k. has_kind (take i all) other || same_kind other k) (sym is)
    ∙ ap (λ b. has_kind (take i all) other || b) (turned (place_of other) (place_of kind))

pub all_removed : (kinds less all excluded : List Kind) (i : ℕ) (kind : Kind) → i < length all → kind ≡ get_or all i kind → has_kind excluded kind ≡ true
    → IsAllBut kinds (take i all) excluded
    → ((other : Kind) → has_kind less other ≡ (not (same_kind kind other) && has_kind kinds other))
    → less ≡ filter (λ other. not (same_kind kind other) && has_kind kinds other) all_kinds
    → IsAllBut less (take (i + 1) all) excluded
all_removed kinds less all excluded i kind inside is out so_far has listed =
    let one : (other : Kind) → (not (same_kind kind other) && has_kind kinds other) ≡ not (has_kind (take (i + 1) all) other && has_kind excluded other) =
    λ other. ap (λ b. not (same_kind kind other) && b) (so_far.same other)
    ∙ removed_bool (same_kind kind other) (has_kind (take i all) other) (has_kind excluded other) (λ h. sym (same_has excluded kind other h) ∙ out)
    ∙ ap (λ b. not (b && has_kind excluded other)) (sym (passed_more all i kind other inside is)) in
    record {
      listed = listed ∙ ap (λ test. filter test all_kinds) (fun_ext one);
      same = λ other. has other ∙ one other;
    }

pub all_kept : (kinds all excluded : List Kind) (i : ℕ) (kind : Kind) → i < length all → kind ≡ get_or all i kind → has_kind excluded kind ≡ false
    → IsAllBut kinds (take i all) excluded → IsAllBut kinds (take (i + 1) all) excluded
all_kept kinds all excluded i kind inside is out so_far =
    let one : (other : Kind) → not (has_kind (take i all) other && has_kind excluded other) ≡ not (has_kind (take (i + 1) all) other && has_kind excluded other) =
    λ other. kept_bool (same_kind kind other) (has_kind (take i all) other) (has_kind excluded other) (λ h. sym (same_has excluded kind other h) ∙ out)
    ∙ ap (λ b. not (b && has_kind excluded other)) (sym (passed_more all i kind other inside is)) in
    record {
      listed = so_far.listed ∙ ap (λ test. filter test all_kinds) (fun_ext one);
      same = λ other. so_far.same other ∙ one other;
    }

pub all_ends : (kinds passed excluded : List Kind) → passed ≡ all_kinds → IsAllBut kinds passed excluded → kinds ≡ filter (λ kind. not (has_kind excluded kind)) all_kinds
all_ends kinds passed excluded is so_far =
    so_far.listed ∙ ap (λ all. filter (λ kind. not (has_kind all kind && has_kind excluded kind)) all_kinds) is

-- ---- frames alone

has_here : (kind : Kind) (kinds : List Kind) → has_kind (kind ∷ kinds) kind ≡ true
has_here kind kinds =
    let e : (place_of kind == place_of kind) ≡ true = grind (arith, nat_tests) in
    ap (λ b. b || has_kind kinds kind) e

or_right : (a b : Bool) → b ≡ true → (a || b) ≡ true
or_right true b h = refl
or_right false b h = h

each_passes : (p : Kind → Bool) (kinds : List Kind) → ((kind : Kind) → has_kind kinds kind ≡ true → p kind ≡ true) → list_all p kinds ≡ true
each_passes p [] h = refl
each_passes p (kind ∷ kinds) h =
    ap (λ b. b && list_all p kinds) (h kind (has_here kind kinds))
    ∙ each_passes p kinds (λ other has. h other (or_right (same_kind other kind) (has_kind kinds other) has))

same_frame : (a b : Kind) → same_kind a b ≡ true → is_frame_kind b ≡ is_frame_kind a
same_frame a b h = ap (λ place. place == place_of MainFrame || place == place_of SubFrame) (sym (one_place a b h))

both_true : (a b : Bool) → (a && b) ≡ true → (a ≡ true) × (b ≡ true)
both_true true b h = (refl, h)
both_true false b h = cc

frames_pass : (kinds : List Kind) (kind : Kind) → list_all is_frame_kind kinds ≡ true → has_kind kinds kind ≡ true → is_frame_kind kind ≡ true
frames_pass [] kind all has = cc
frames_pass (first ∷ kinds) kind all has =
    let both = both_true (is_frame_kind first) (list_all is_frame_kind kinds) all in
    ⊎_elim
    (λ here. sym (same_frame kind first here) ∙ both.0)
    (λ later. frames_pass kinds kind both.1 (sym (ap (λ b. b || has_kind kinds kind) later) ∙ has))
    (cases_Bool (same_kind kind first))

no_other : (m s h : Bool) → (h ≡ true → (m || s) ≡ true) → (not s && (not m && h)) ≡ false
no_other true true h e = refl
no_other true false h e = refl
no_other false true h e = refl
no_other false false true e = absurd (true≢false (sym (e refl)))
no_other false false false e = refl

some_frame : (m s h : Bool) → (not s && (not m && h)) ≡ false → h ≡ true → (m || s) ≡ true
some_frame true s h e g = refl
some_frame false true h e g = refl
some_frame false false h e g = absurd (true≢false (sym g ∙ e))

none_left : (all : List Kind) → filter (λ kind. false) all ≡ []
none_left [] = refl
none_left (kind ∷ all) = none_left all

is_nothing : (kinds : List Kind) → (length kinds == 0) ≡ true → kinds ≡ []
is_nothing [] h = refl
is_nothing (kind ∷ kinds) h = let e : length (kind ∷ kinds) ≡ 0 = grind (arith, nat_tests, h) in absurd (omega (arith, e))

frame_turned : (kind : Kind) → (same_kind MainFrame kind || same_kind SubFrame kind) ≡ is_frame_kind kind
frame_turned kind = ap (λ b. b || same_kind SubFrame kind) (turned (place_of MainFrame) (place_of kind)) ∙ ap (λ b. same_kind kind MainFrame || b) (turned (place_of SubFrame) (place_of kind))

-- no type is left without the frames just where all are frames
pub frames_alone : (kinds mid others : List Kind)
    → ((kind : Kind) → has_kind mid kind ≡ (not (same_kind MainFrame kind) && has_kind kinds kind))
    → ((kind : Kind) → has_kind others kind ≡ (not (same_kind SubFrame kind) && has_kind mid kind))
    → others ≡ filter (λ kind. not (same_kind SubFrame kind) && has_kind mid kind) all_kinds
    → (length others == 0) ≡ list_all is_frame_kind kinds
frames_alone kinds mid others first second listed =
    let left : (kind : Kind) → (not (same_kind SubFrame kind) && has_kind mid kind) ≡ (not (same_kind SubFrame kind) && (not (same_kind MainFrame kind) && has_kind kinds kind)) =
    λ kind. ap (λ b. not (same_kind SubFrame kind) && b) (first kind) in
    ⊎_elim
    (λ yes.
    let none : (kind : Kind) → (not (same_kind SubFrame kind) && has_kind mid kind) ≡ false =
    λ kind. left kind ∙ no_other (same_kind MainFrame kind) (same_kind SubFrame kind) (has_kind kinds kind) (λ has. frame_turned kind ∙ frames_pass kinds kind yes has) in
    let empty : others ≡ [] = listed ∙ ap (λ test. filter test all_kinds) (fun_ext none) ∙ none_left all_kinds in
    ap (λ list. length list == 0) empty ∙ sym yes)
    (λ no. ⊎_elim
    (λ yes.
    let empty = is_nothing others yes in
    let none : (kind : Kind) → (not (same_kind SubFrame kind) && (not (same_kind MainFrame kind) && has_kind kinds kind)) ≡ false =
    λ kind. sym (left kind) ∙ sym (second kind) ∙ ap (λ list. has_kind list kind) empty in
    yes ∙ sym (each_passes is_frame_kind kinds (λ kind has. sym (frame_turned kind) ∙ some_frame (same_kind MainFrame kind) (same_kind SubFrame kind) (has_kind kinds kind) (none kind) has)))
    (λ other. other ∙ sym no)
    (cases_Bool (length others == 0)))
    (cases_Bool (list_all is_frame_kind kinds))
