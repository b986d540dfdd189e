-- What is left of hits that are sorted, each once.
use Rattle.std.proofs.Common.{◌≡◌, ℕ, ◌==◌, ◌+◌, ◌≤◌, List, [], ◌∷◌, Bool, true, false, ◌&&◌, cond, refl, sym, ap, ◌∙◌, arith}
use Rattle.std.specs.List.{dedup, dedup_from, Contains, sum_by}
use Rattle.std.specs.List.Retain.{DiffersFromLast, IsFiltered}
use Rattle.std.specs.List.Sorted.{IsSorted, IsStrictlySortedBy}
use Rattle.std.specs.Cmp.{IsEquivalence, IsTotalOrder}
use Rattle.std.specs.Ordering.{eq_by_cmp, is_eq, nat_cmp}
use Rattle.std.specs.Cmp.{tied_then, unsigned_ties}
use Rattle.std.proofs.lemmas.Bool.{eqb-true}
use Rattle.std.proofs.lemmas.Cmp.{and_equiv, nat_cmp_total, nat_eq_equiv, on_equiv, on_total, then_total}
use Rattle.std.proofs.lemmas.List.Filters.{dedup_is}
use Rattle.std.proofs.lemmas.List.Sums.{sum_by-cons}
use Rattle.std.proofs.lemmas.List.Kept.{Contains-dedup, IsStrictlySortedBy-dedup}
use Rattle.generation.specs.Hits.{hit_cmp}

abbrev pub hit_eq : ℕ × ℕ → ℕ × ℕ → Bool
hit_eq x y = (x.0 == y.0) && (x.1 == y.1)

hits_total : IsTotalOrder hit_cmp
hits_total = then_total (on_total (λ (h : ℕ × ℕ). h.0) nat_cmp_total) (on_total (λ (h : ℕ × ℕ). h.1) nat_cmp_total)

ties : (x y : ℕ × ℕ) → hit_eq x y ≡ eq_by_cmp hit_cmp x y
ties x y =
    ap (λ b. b && (x.1 == y.1)) (unsigned_ties x.0 y.0)
    ∙ ap (λ b. is_eq (nat_cmp x.0 y.0) && b) (unsigned_ties x.1 y.1)
    ∙ tied_then (nat_cmp x.0 y.0) (nat_cmp x.1 y.1)

both : (a b : Bool) → (a && b) ≡ true → (a ≡ true) × (b ≡ true)
both true true h = (refl, refl)
both true false h = cc
both false b h = cc

same_hit : (x y : ℕ × ℕ) → hit_eq x y ≡ true → x ≡ y
same_hit (a, b) (c, d) h =
    let two = both (a == c) (b == d) h in
    ap (λ (n : ℕ). (n, b)) (eqb-true a c two.0) ∙ ap (λ (n : ℕ). (c, n)) (eqb-true b d two.1)

hits_equal : IsEquivalence hit_eq
hits_equal = and_equiv (on_equiv (λ (h : ℕ × ℕ). h.0) nat_eq_equiv) (on_equiv (λ (h : ℕ × ℕ). h.1) nat_eq_equiv)

pub once_is : (xs ys : List (ℕ × ℕ)) → IsFiltered (DiffersFromLast hit_eq) [] xs ys → dedup hit_eq xs ≡ ys
once_is xs ys h = sym (dedup_is hit_eq xs ys h)

pub sorted_once : (xs : List (ℕ × ℕ)) → IsSorted hit_cmp xs → IsStrictlySortedBy hit_cmp (dedup hit_eq xs)
sorted_once xs sorted = IsStrictlySortedBy-dedup hits_total ties xs sorted

pub kept_once : (xs : List (ℕ × ℕ)) (hit : ℕ × ℕ) → Contains xs hit → Contains (dedup hit_eq xs) hit
kept_once xs hit has = Contains-dedup hits_equal same_hit xs hit has

module _ (weight : ℕ × ℕ → ℕ) where
  lighter_case : (b : Bool) (xs ys : List (ℕ × ℕ)) (n : ℕ) → sum_by weight xs ≤ n → sum_by weight ys ≤ n → sum_by weight (cond b xs ys) ≤ n
  lighter_case true xs ys n h g = h
  lighter_case false xs ys n h g = g

  lighter_from : (last : ℕ × ℕ) (xs : List (ℕ × ℕ)) → sum_by weight (dedup_from hit_eq last xs) ≤ weight last + sum_by weight xs
  lighter_from last [] = omega arith
  lighter_from last (x ∷ xs) =
      let a = lighter_from last xs in
      let b = lighter_from x xs in
      let more = sum_by-cons weight x xs in
      let first = sum_by-cons weight last (dedup_from hit_eq x xs) in
      lighter_case (hit_eq x last) (dedup_from hit_eq last xs) (last ∷ dedup_from hit_eq x xs) (weight last + sum_by weight (x ∷ xs)) (omega (arith, a, more)) (omega (arith, b, more, first))

pub lighter_once : (weight : ℕ × ℕ → ℕ) (xs : List (ℕ × ℕ)) → sum_by weight (dedup hit_eq xs) ≤ sum_by weight xs
lighter_once weight [] = omega arith
lighter_once weight (x ∷ xs) = let a = lighter_from weight x xs in let more = sum_by-cons weight x xs in omega (arith, a, more)
