-- Rules in the order in which they are offered, and lines in ascending order, are what a stable sort answers.
use Rattle.std.proofs.Common.{◌≡◌, ℕ, List, [], ◌∷◌, reverse, Bool, true, false, not, cond, refl, sym, ap, ◌∙◌, ⊎_elim, arith}
use Rattle.std.specs.Prelude.{nat_le, nat_lt, ◌==◌}
use Rattle.std.specs.List.Sorted.{IsSortedBy}
use Rattle.std.specs.Ordering.{nat_cmp, is_lt}
use Rattle.std.specs.declared.cmp.Ordering.TheVariants.{Less, Equal, Greater}
use Rattle.std.specs.Cmp.{IsStrictWeakOrder}
use Rattle.std.proofs.lemmas.Bool.{cases_Bool, true≢false}
use Rattle.std.proofs.lemmas.Bool.Decides.{nat_tests}
use Rattle.std.proofs.lemmas.Cmp.{nat_cmp_total}
use Rattle.std.proofs.lemmas.List.Sorted.{ranks_by}
use Rattle.dnr_base.specs.declared.verb.Verb.TheVariants as verb
use Rattle.precedence.proofs.Orders.{beats_is_order}
use Rattle.rule_spec.specs.State.{Live}
use Rattle.rule_spec.specs.Scan.{candidate_of, comes_before, in_order, into_order}
use Rattle.explain_spec.specs.Explanation.{ascending_lines, line_into}
use Rattle.generation.proofs.Sorts.{SameTies, each_before, each_behind, into_before, into_behind, sorted_before, sorted_behind}

-- ---- rules

pub order_of_rules : IsStrictWeakOrder comes_before
order_of_rules = record {
  one_way = λ x y. beats_is_order.one_way (candidate_of x verb.Block) (candidate_of y verb.Block);
  chain = λ x y z h g.
      ⊎_elim
      (λ (less : comes_before x z ≡ true).
      absurd (true≢false (sym (beats_is_order.between (candidate_of x verb.Block) (candidate_of z verb.Block) (candidate_of y verb.Block) less g) ∙ h)))
      (λ (no : comes_before x z ≡ false). no)
      (cases_Bool (comes_before x z));
}

into_is : (x : Live) (xs : List Live) → into_order x xs ≡ into_behind comes_before x xs
into_is x [] = refl
into_is x (y ∷ ys) = ap (λ l. cond (comes_before x y) (x ∷ y ∷ ys) (y ∷ l)) (into_is x ys)

order_is : (xs : List Live) → in_order xs ≡ each_behind comes_before xs
order_is [] = refl
order_is (x ∷ xs) = into_is x (in_order xs) ∙ ap (into_behind comes_before x) (order_is xs)

-- what a stable sort makes of the rules turned round
pub rules_in_order : (xs sorted : List Live) → IsSortedBy comes_before sorted → SameTies comes_before sorted (reverse xs) → sorted ≡ in_order xs
rules_in_order xs sorted up same = sorted_behind comes_before order_of_rules xs sorted up same ∙ sym (order_is xs)

-- ---- lines

abbrev pub below : ℕ → ℕ → Bool
below a b = is_lt (nat_cmp a b)

order_of_lines : IsStrictWeakOrder below
order_of_lines = ranks_by nat_cmp_total (λ (n : ℕ). n)

less_case : (p q : Bool) → is_lt (cond p Less (cond q Equal Greater)) ≡ p
less_case true q = refl
less_case false true = refl
less_case false false = refl

not_case : (p : Bool) (xs ys : List ℕ) → cond (not p) xs ys ≡ cond p ys xs
not_case true xs ys = refl
not_case false xs ys = refl

turned : (a b : ℕ) (xs ys : List ℕ) → cond (nat_le a b) xs ys ≡ cond (below b a) ys xs
turned a b xs ys =
    let other : nat_le a b ≡ not (nat_lt b a) = grind (arith, nat_tests) in
    ap (λ p. cond p xs ys) other ∙ not_case (nat_lt b a) xs ys ∙ ap (λ p. cond p ys xs) (sym (less_case (nat_lt b a) (b == a)))

line_is : (x : ℕ) (xs : List ℕ) → line_into x xs ≡ into_before below x xs
line_is x [] = refl
line_is x (y ∷ ys) = turned x y (x ∷ y ∷ ys) (y ∷ line_into x ys) ∙ ap (λ l. cond (below y x) (y ∷ l) (x ∷ y ∷ ys)) (line_is x ys)

lines_are : (xs : List ℕ) → ascending_lines xs ≡ each_before below xs
lines_are [] = refl
lines_are (x ∷ xs) = line_is x (ascending_lines xs) ∙ ap (into_before below x) (lines_are xs)

-- what a stable sort makes of lines
pub lines_in_order : (xs sorted : List ℕ) → IsSortedBy below sorted → SameTies below sorted xs → sorted ≡ ascending_lines xs
lines_in_order xs sorted up same = sorted_before below order_of_lines xs sorted up same ∙ sym (lines_are xs)
