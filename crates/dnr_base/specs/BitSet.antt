-- A set whose members have places, kept as a number with one bit for each place.
use Rattle.std.specs.Prelude.{ℕ, ◌^◌, List, Bool, not, ◌==◌, bit_and, filter}
use Rattle.std.specs.List.{list_any}

abbrev pub has_bit : ℕ → ℕ → Bool
has_bit bits place = not (bit_and bits (2 ^ place) == 0)

-- of all, those whose bit is set
abbrev pub members_of : {X : Type 0} → (X → ℕ) → List X → ℕ → List X
members_of place all bits = filter (λ member. has_bit bits (place member)) all

-- a list is taken as a set: one of this place is in it
abbrev pub is_among : {X : Type 0} → (X → ℕ) → List X → X → Bool
is_among place members member = list_any (λ other. place member == place other) members
