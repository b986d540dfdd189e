-- A pattern around its first star.
use Rattle.std.proofs.Common.{◌≡◌, ◌≢◌, ℕ, ◌+◌, ◌<◌, ◌≤◌, List, ◌∷◌, ◌++◌, length, take, drop, get_or, ◌==◌, sym, ap, ◌∙◌, arith, eq-eqb, get_or-take, length-take-le, take-append-drop, length-drop, ◌-◌}
use Rattle.std.specs.List.{position_or_len}
use Rattle.std.proofs.lemmas.Bool.{eqb-true, true≢false}
use Rattle.std.proofs.lemmas.List.{drop_more}
use Rattle.std.proofs.lemmas.List.Sums.{fails_before_first, passes_at_first}
use Rattle.std.proofs.Math.Seq.{take-length}
use Rattle.match_patterns.specs.Stars.{IsPlain}

no_star : (pattern : List ℕ) (k : ℕ) → k < position_or_len (λ b. b == 42) pattern → get_or pattern k 0 ≢ 42
no_star pattern k less star = true≢false (sym (eq-eqb (get_or pattern k 0) 42 star) ∙ fails_before_first (λ b. b == 42) pattern k 0 less)

pub before_star : (pattern : List ℕ) (place : ℕ) → place ≡ position_or_len (λ b. b == 42) pattern → place < length pattern → IsPlain (take place pattern)
before_star pattern place is within = record {
  plain = λ k less.
      let short : length (take place pattern) ≡ place = length-take-le place pattern (omega arith) in
      let early : k < place = omega arith in
      λ star. no_star pattern k (omega arith) (sym (get_or-take place pattern k 0 early) ∙ star);
}

pub around_star : (pattern : List ℕ) (place : ℕ) → place ≡ position_or_len (λ b. b == 42) pattern → place < length pattern → pattern ≡ take place pattern ++ 42 ∷ drop (place + 1) pattern
around_star pattern place is within =
    let within_too : position_or_len (λ b. b == 42) pattern < length pattern = omega arith in
    let star : get_or pattern place 0 ≡ 42 = ap (λ k. get_or pattern k 0) is ∙ eqb-true (get_or pattern (position_or_len (λ b. b == 42) pattern) 0) 42 (passes_at_first (λ b. b == 42) pattern 0 within_too) in
    sym (take-append-drop place pattern) ∙ ap (λ t. take place pattern ++ t) (drop_more pattern place 0 within ∙ ap (λ b. b ∷ drop (place + 1) pattern) star)

pub without_star : (pattern : List ℕ) (place : ℕ) → place ≡ position_or_len (λ b. b == 42) pattern → length pattern ≤ place → IsPlain pattern
without_star pattern place is past = record { plain = λ k less. no_star pattern k (omega arith) }

-- a part up to the end
pub tail_slice : (n : ℕ) (text : List ℕ) → take (length text - n) (drop n text) ≡ drop n text
tail_slice n text = ap (λ m. take m (drop n text)) (sym (length-drop n text)) ∙ take-length (drop n text)
