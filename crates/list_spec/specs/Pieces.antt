-- A text cut into pieces.
use Rattle.std.specs.Prelude.{ℕ, ◌+◌, List, drop, take, codes, Bool, ◌==◌, nat_eq, Option, None, Some, if◌then◌else◌}
use Rattle.std.specs.List.{starts_with, slice_split}

-- what stands between the places of this byte: one piece more than there are of it
abbrev pub pieces_of : ℕ → List ℕ → List (List ℕ)
pieces_of cut text = slice_split (λ b. b == cut) text

-- what stands before a place, or all where there is none
abbrev pub before_place : Option ℕ → List ℕ → List ℕ
before_place None text = text
before_place (Some place) text = take place text

-- what stands behind the byte at a place
abbrev pub behind_place : Option ℕ → List ℕ → Option (List ℕ)
behind_place None text = None
behind_place (Some place) text = Some (drop (place + 1) text)

-- the text is turned into its opposite
abbrev pub is_inverse : List ℕ → Bool
is_inverse text = starts_with nat_eq text (codes "~")

abbrev pub without_tilde : List ℕ → List ℕ
without_tilde text = if is_inverse text then drop 1 text else text
