-- A pattern around its first star, and what a walk along a text needs of it.
use Rattle.std.specs.Prelude.{◌≡◌, ◌≢◌, ℕ, ◌-◌, ◌<◌, List, ◌∷◌, ◌++◌, length, drop, slice_index, Bool, ◌&&◌, nat_le, Option, Some, None}
use Rattle.std.specs.Borrow.{Bor}
use Rattle.std.specs.Str.{bytes_eq}

-- the pattern has no star
pub record IsPlain (pattern : List ℕ) : Type 0 where
  pub plain : (k : ℕ) → k < length pattern → slice_index pattern k ≢ 42

-- what stands before its first star, and behind it if there is one
abbrev pub IsSplit : List ℕ → List ℕ → Option (Bor (List ℕ)) → Type 0
IsSplit pattern piece None = IsPlain piece × (pattern ≡ piece)
IsSplit pattern piece (Some behind) = IsPlain piece × (pattern ≡ piece ++ 42 ∷ behind.now)

-- the text ends with the piece
abbrev pub is_end : List ℕ → List ℕ → Bool
is_end piece text = nat_le (length piece) (length text) && bytes_eq piece (drop (length text - length piece) text)
