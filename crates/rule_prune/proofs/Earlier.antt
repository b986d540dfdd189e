-- Of two rules of a list, whose ids differ, that of the smaller place stands earlier.
use Rattle.std.proofs.Common.{◌≡◌, ℕ, zero, suc, List, [], ◌∷◌, true, false, not, ◌&&◌, ◌||◌, ◌==◌, Some, sym, ap, ◌∙◌, arith}
use Rattle.std.specs.Prelude.{nat_lt}
use Rattle.std.specs.List.{slice_get}
use Rattle.std.proofs.lemmas.Bool.{or_left, or_right, true≢false, false_from_ne_true, eq-eqb, eqb-true}
use Rattle.std.proofs.lemmas.Bool.Decides.{nat_tests}
use Rattle.rule_spec.specs.Rule.{Rule}
use Rattle.prune_spec.specs.Shadows.{shadows}
use Rattle.prune_spec.specs.Pruned.{IdsDiffer, has_id, stands_earlier}
use Rattle.rule_prune.specs.Filters.{one_outdoes}

some_there : (x one : Rule) → Some x ≡ Some one → x ≡ one
some_there x one h = cc

pub has_its_id : (rules : List Rule) (place : ℕ) (one : Rule) → slice_get rules place ≡ Some one → has_id rules one.id ≡ true
has_its_id [] place one at = cc
has_its_id (rule ∷ rules) zero one at = or_left (rule.id == one.id) (has_id rules one.id) (eq-eqb rule.id one.id (ap (λ (r : Rule). r.id) (some_there rule one at)))
has_its_id (rule ∷ rules) (suc place) one at = or_right (rule.id == one.id) (has_id rules one.id) (has_its_id rules place one at)

-- the first rule's id is that of no other
apart : (rule : Rule) (rules : List Rule) (place : ℕ) (one : Rule) → has_id rules rule.id ≡ false → slice_get rules place ≡ Some one → (rule.id == one.id) ≡ false
apart rule rules place one none at =
    false_from_ne_true (rule.id == one.id) (λ same. true≢false (sym (ap (has_id rules) (eqb-true rule.id one.id same) ∙ has_its_id rules place one at) ∙ none))

less_suc : (i j : ℕ) → nat_lt (suc i) (suc j) ≡ nat_lt i j
less_suc i j = grind (arith, nat_tests)

pub earlier_by_place : (rules : List Rule) → IdsDiffer rules → (i j : ℕ) (k s : Rule) → slice_get rules i ≡ Some k → slice_get rules j ≡ Some s → stands_earlier rules k s ≡ nat_lt i j
earlier_by_place [] ids i j k s at its = cc
earlier_by_place (rule ∷ rules) ids i zero k s at its =
    let same : (rule.id == s.id) ≡ true = eq-eqb rule.id s.id (ap (λ (r : Rule). r.id) (some_there rule s its)) in
    let none : nat_lt i zero ≡ false = grind (arith, nat_tests) in
    ap (λ b. not b && (rule.id == k.id || stands_earlier rules k s)) same ∙ sym none
earlier_by_place (rule ∷ rules) ids zero (suc j) k s at its =
    let same : (rule.id == k.id) ≡ true = eq-eqb rule.id k.id (ap (λ (r : Rule). r.id) (some_there rule k at)) in
    let less : nat_lt zero (suc j) ≡ true = grind (arith, nat_tests) in
    let other = apart rule rules j s ids.0 its in
    (λ n. not (other n) && (same n || stands_earlier rules k s)) ∙ sym less
earlier_by_place (rule ∷ rules) ids (suc i) (suc j) k s at its =
    let one = apart rule rules i k ids.0 at in
    let other = apart rule rules j s ids.0 its in
    (λ n. not (other n) && (one n || stands_earlier rules k s)) ∙ earlier_by_place rules ids.1 i j k s at its ∙ sym (less_suc i j)

-- so one outdoes the other as it does by their places
pub outdone_by_place : (rules : List Rule) → IdsDiffer rules → (i j : ℕ) (k s : Rule) → slice_get rules i ≡ Some k → slice_get rules j ≡ Some s
    → (shadows k s && (not (shadows s k) || nat_lt i j)) ≡ one_outdoes rules (slice_get rules i) (slice_get rules j)
outdone_by_place rules ids i j k s at its =
    ap (λ b. shadows k s && (not (shadows s k) || b)) (sym (earlier_by_place rules ids i j k s at its)) ∙ sym (λ n. one_outdoes rules (at n) (its n))
