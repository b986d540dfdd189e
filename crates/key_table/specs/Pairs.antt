-- A table as a list of pairs, and what is asked of it.
use Rattle.std.specs.Prelude.{ℕ, List, map, bit_or, ◌==◌, ◌&&◌, Bool, true, Option, Some, None, bytes_eq, if◌then◌else◌}
use Rattle.std.specs.List.{filter_map}
use Rattle.std.specs.Char.{to_ascii_lowercase}

-- a key of a place; `needed` has as bits what else the place needs of whoever asks
pub record Pair : Type 0 where
  pub key : List ℕ
  pub place : ℕ
  pub needed : ℕ

abbrev pub lower_case : List ℕ → List ℕ
lower_case text = map to_ascii_lowercase text

-- the bits are all among those that are shown
abbrev pub is_within : ℕ → ℕ → Bool
is_within needed shown = bit_or needed shown == shown

-- where nothing is told of what is shown, everything is
abbrev pub shows : ℕ → Option ℕ → Bool
shows needed None = true
shows needed (Some shown) = is_within needed shown

abbrev pub near_if : List ℕ → Option ℕ → Pair → Option ℕ
near_if key shown pair = if shows pair.needed shown && bytes_eq pair.key key then Some pair.place else None

-- the places that have the key and need no more than is shown, once for each pair
abbrev pub near_of : List ℕ → Option ℕ → List Pair → List ℕ
near_of key shown pairs = filter_map (near_if key shown) pairs

-- the places that have the key, once for each pair
abbrev pub places_of : List ℕ → List Pair → List ℕ
places_of key pairs = near_of key None pairs
