-- What is left of a walk that may not be there.
use Rattle.std.specs.Prelude.{ℕ, List, [], Option, Some, None}

abbrev pub places_left : Option (List ℕ) → List ℕ
places_left None = []
places_left (Some places) = places
