-- What a search says of numbers that rise.
use Rattle.std.proofs.Common.{◌≡◌, ℕ, ◌<◌, ◌≤◌, List, true, false, Result, Ok, Err, is_ok, length, get_or, sym, refl, arith, inl, inr, eq-eqb, ◌^◌, ℤ, pos, int_eq, FitsSigned, to_z, of_z, Bool}
use mir.Syntax.{w32, w128}
use Rattle.std.specs.Int.{FitsUnsigned}
use Rattle.std.proofs.Math.Facts.{to_z-of_z}
use Rattle.std.proofs.lemmas.Int.{ints}
use Rattle.std.proofs.lemmas.Bool.Decides.{Decides-int_eq}
use Rattle.rule_ids.specs.Counted.{AreSmall}
use Rattle.rule_ids.specs.declared.known_rule.KnownRule.{KnownRule}
use Rattle.std.specs.Prelude.{◌==◌}
use Rattle.std.specs.Ordering.{nat_cmp}
use Rattle.std.specs.List.{list_any}
use Rattle.std.specs.List.Sorted.{IsBinarySearchResult, IsNonDecreasing}
use Rattle.std.proofs.lemmas.Bool.{cases_lt}
use Rattle.std.proofs.lemmas.Bool.Decides.{nat_tests}
use Rattle.std.proofs.lemmas.List.Elements.{All-from_get_or}
use Rattle.std.proofs.lemmas.List.Folds.{list_any_at, list_any_none}
use Rattle.std.proofs.lemmas.List.Sorted.{searched}
use Rattle.rule_spec.specs.State.{has_number}

found : (xs : List ℕ) (x i : ℕ) → i < length xs → get_or xs i 0 ≡ x → has_number xs x ≡ true
found xs x i lt is = list_any_at (λ other. x == other) xs i 0 lt (eq-eqb x (get_or xs i 0) (sym is))

missed : (xs : List ℕ) (x i : ℕ) → ((k : ℕ) → k < i → get_or xs k 0 < x) → ((k : ℕ) → i ≤ k → k < length xs → x < get_or xs k 0) → has_number xs x ≡ false
missed xs x i below above =
    list_any_none (λ other. x == other) xs (All-from_get_or (λ other. (x == other) ≡ false) xs 0 (λ k lt.
    elim (cases_lt k i) [
      | inl before ↦ (let less = below k before in grind (arith, nat_tests, less))
      | inr behind ↦ (let more = above k behind lt in grind (arith, nat_tests, more))
    ]))

pub is_found : (xs : List ℕ) (x : ℕ) (r : Result ℕ ℕ) → IsBinarySearchResult (λ y. nat_cmp y x) xs r → IsNonDecreasing xs → is_ok r ≡ has_number xs x
is_found xs x (Ok i) is rising = let at = searched xs x (Ok i) is (λ i j le lt. rising i j 0 le lt) in sym (found xs x i at.0 at.1)
is_found xs x (Err i) is rising = let at = searched xs x (Err i) is (λ i j le lt. rising i j 0 le lt) in sym (missed xs x i at.1 at.2)

-- ---- whole numbers that are no ids

not_so : (b : Bool) → (b ≡ true → ⊥) → b ≡ false
not_so true so = absurd (so refl)
not_so false so = refl

fits_small : (n : ℕ) → n < 2 ^ 32 → FitsUnsigned w32 (pos n)
fits_small n small = (omega (arith, ints), omega (arith, ints))

other_whole : (id : ℤ) (n : ℕ) → FitsSigned w128 id → (FitsUnsigned w32 (to_z w128 (of_z w128 id)) → ⊥) → n < 2 ^ 32 → int_eq id (pos n) ≡ false
other_whole id n fits large small =
    not_so (int_eq id (pos n)) (λ is.
    let same : id ≡ pos n = (Decides-int_eq id (pos n)).0 is in
    large (rw (to_z-of_z fits, same) (fits_small n small)))

pub no_whole : (id : ℤ) (known : List KnownRule) → FitsSigned w128 id → (FitsUnsigned w32 (to_z w128 (of_z w128 id)) → ⊥) → AreSmall known
    → list_any (λ one. int_eq id (pos one.id)) known ≡ false
no_whole id known fits large small =
    list_any_none (λ (one : KnownRule). int_eq id (pos one.id)) known
    (λ k d lt. other_whole id (get_or known k d).id fits large (small k d lt))
