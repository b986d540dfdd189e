-- The byte of a pattern by which its places in a text are found.
use Rattle.std.specs.Prelude.{◌≡◌, ◌≢◌, ℕ, ◌+◌, ◌<◌, List, length, slice_index, Bool, true, false}
use Rattle.dnr_spec.specs.UrlFilter.{fits_at, is_same}
use Rattle.url_filter.specs.Stops.{HasNoStar}

-- a byte of the pattern's first piece that stands for itself
pub record IsSought (pattern : List ℕ) (offset : ℕ) : Type 0 where
  pub within : offset < length pattern
  pub plain : HasNoStar pattern (offset + 1)
  pub literal : slice_index pattern offset ≢ 94

-- the byte stands at this place of the text
abbrev pub Stands : Bool → ℕ → List ℕ → ℕ → Type 0
Stands fold byte text place = is_same fold (slice_index text place) byte ≡ true

-- the pattern fits no beginning of this text
abbrev pub NeverFits : Bool → List ℕ → List ℕ → Type 0
NeverFits fold pattern text = (ends : Bool) → fits_at ends fold pattern text ≡ false
