-- The bytes between two places of a buffer, when the first place moves on.
use Rattle.std.proofs.Common.{◌≡◌, ℕ, ◌+◌, ◌-◌, ◌<◌, ◌≤◌, min, List, [], take, drop, sym, ap, ◌∙◌, ⊎_elim, subst, arith}
use Rattle.std.proofs.lemmas.Bool.{cases_lt}
use Rattle.std.proofs.lemmas.List.{drop-take, drop-drop, drop_all, length-take}

within : (xs : List ℕ) (start m count : ℕ) → take m (drop (start + count) xs) ≡ drop count (take (count + m) (drop start xs))
within xs start m count = sym (drop-take count m (drop start xs) ∙ ap (λ ys. take m ys) (drop-drop count start xs))

past : (xs : List ℕ) (n count : ℕ) → n ≤ count → [] ≡ drop count (take n xs)
past xs n count le = sym (drop_all count (take n xs) (omega (arith, length-take n xs)))

pub consumed : (xs : List ℕ) (start end count at : ℕ) → start ≤ end → at ≡ min (start + count) end → take (end - at) (drop at xs) ≡ drop count (take (end - start) (drop start xs))
consumed xs start end count at le is =
    ⊎_elim (λ (lt : end - start < count).
    let none : end - at ≡ 0 = omega arith in
    rw none (past (drop start xs) (end - start) count (omega arith)))
    (λ (le2 : count ≤ end - start).
    let place : at ≡ start + count = omega arith in
    let left : end - at ≡ end - start - count = omega arith in
    let all : end - start ≡ count + (end - start - count) = omega arith in
    rw (left, place) (subst (λ n. take (end - start - count) (drop (start + count) xs) ≡ drop count (take n (drop start xs))) (sym all) (within xs start (end - start - count) count)))
    (cases_lt (end - start) count)
