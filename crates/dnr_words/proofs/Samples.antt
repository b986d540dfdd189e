-- A sample has four numbers.
use Rattle.std.proofs.Common.{◌≡◌, ℕ, ◌<◌, ◌≤◌, List, [], ◌∷◌, length, map, None, refl, arith}
use Rattle.session_spec.specs.Words.{sample_of}

pub too_few : {X : Type 0} (bytes : X → List ℕ) (words : List X) → length words < 4 → None ≡ sample_of (map bytes words)
too_few bytes [] few = refl
too_few bytes (a ∷ []) few = refl
too_few bytes (a ∷ b ∷ []) few = refl
too_few bytes (a ∷ b ∷ c ∷ []) few = refl
too_few bytes (a ∷ b ∷ c ∷ d ∷ words) few = absurd (omega (arith, few))

pub too_many : {X : Type 0} (bytes : X → List ℕ) (words : List X) → 5 ≤ length words → None ≡ sample_of (map bytes words)
too_many bytes [] many = absurd (omega (arith, many))
too_many bytes (a ∷ []) many = absurd (omega (arith, many))
too_many bytes (a ∷ b ∷ []) many = absurd (omega (arith, many))
too_many bytes (a ∷ b ∷ c ∷ []) many = absurd (omega (arith, many))
too_many bytes (a ∷ b ∷ c ∷ d ∷ []) many = absurd (omega (arith, many))
too_many bytes (a ∷ b ∷ c ∷ d ∷ e ∷ words) many = refl
