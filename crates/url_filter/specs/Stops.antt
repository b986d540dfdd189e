-- What a walk along a pattern tells where it comes to a star.
use Rattle.std.specs.Prelude.{◌≡◌, ◌≢◌, ℕ, ◌+◌, ◌<◌, List, drop, slice_index, Bool, ◌==◌, if◌then◌else◌}
use Rattle.dnr_spec.specs.UrlFilter.{fits_at, some_end, is_separator, is_same}

-- this byte of a pattern, which is no star, takes that byte of a text
abbrev pub takes : Bool → ℕ → ℕ → Bool
takes fold c b = if c == 94 then is_separator b else is_same fold b c

-- no star stands before this place
abbrev pub HasNoStar : List ℕ → ℕ → Type 0
HasNoStar pattern n = (k : ℕ) → k < n → slice_index pattern k ≢ 42

-- the walk came to a star at this place, with that left of the pattern and of the text
pub record StopsAtStar (ends fold : Bool) (pattern text after rest : List ℕ) : Type 0 where
  pub place : ℕ
  pub plain : HasNoStar pattern place
  pub star : slice_index pattern place ≡ 42
  pub behind : after ≡ drop (place + 1) pattern
  pub left : rest ≡ drop place text
  pub same : fits_at ends fold pattern text ≡ some_end (fits_at ends fold after) rest
