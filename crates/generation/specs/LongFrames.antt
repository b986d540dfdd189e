-- Frames whose words are listed.
use Rattle.std.specs.Prelude.{◌≡◌, ℕ, List, Option, Some, slice_get, IfSome}
use Rattle.dnr_base.specs.declared.request.Request.{Request}
use Rattle.dnr_base.specs.Request.{Part, frame_part}

-- what is listed at a place is the frame there
abbrev pub AreLong : List (Option Part) → Request → Type 0
AreLong long request = (place : ℕ) → IfSome (slice_get long place) (λ one. IfSome one (λ part. frame_part request place ≡ Some part))
