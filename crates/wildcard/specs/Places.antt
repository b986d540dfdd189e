-- The table of a pattern's places: from which of them the pieces take what is left of a text.
use Rattle.std.specs.Prelude.{◌≡◌, ℕ, ◌+◌, ◌<◌, ◌≤◌, List, [], drop, length, slice_index_or, Bool, true, false, ◌&&◌, ◌||◌}
use Rattle.dnr_spec.specs.declared.piece.Piece.{Piece}
use Rattle.dnr_spec.specs.declared.piece.Piece.TheVariants.{AnyBytes, AtMostOne, Byte}
use Rattle.dnr_spec.specs.UrlFilter.{is_same}
use Rattle.dnr_spec.specs.Wildcards.{takes}
use Rattle.wildcard.specs.Words.{tells, AreNoted}
use Rattle.wildcard.specs.declared.places.Row.{Row}

-- from this place on the pieces take what the text has from this byte on
abbrev pub takes_from : Bool → List Piece → List ℕ → ℕ → ℕ → Bool
takes_from fold pieces text place at = takes fold (drop place pieces) (drop at text)

-- the same by what they do behind the byte, from this place and the next, and by what they do from the next
abbrev pub takes_here : Bool → Piece → ℕ → Bool → Bool → Bool → Bool
takes_here fold AnyBytes byte old was now = now || old
takes_here fold AtMostOne byte old was now = now || was
takes_here fold (Byte c) byte old was now = was && is_same fold byte c

-- the piece may take no byte
abbrev pub takes_nothing : Piece → Bool
takes_nothing AnyBytes = true
takes_nothing AtMostOne = true
takes_nothing (Byte c) = false

-- the table tells of each place what the pieces take from this byte on
abbrev pub Stands : Bool → List Piece → List ℕ → ℕ → List Bool → Type 0
Stands fold pieces text at table = (k : ℕ) → k ≤ length pieces → slice_index_or table k false ≡ takes_from fold pieces text k at

-- the table tells of the places from this one on what they take at the end of a text
pub record EndStands (pieces : List Piece) (table : List Bool) (place : ℕ) (last : Bool) : Type 0 where
  pub order : place ≤ length pieces
  pub now : (fold : Bool) → last ≡ takes fold (drop place pieces) []
  pub told : (fold : Bool) (k : ℕ) → place ≤ k → k ≤ length pieces → slice_index_or table k false ≡ takes fold (drop k pieces) []

-- the word tells from which bytes of a part of the text on, up to its end, the pieces take it from this place on
abbrev pub WordTells : Bool → List Piece → List ℕ → ℕ → ℕ → ℕ → ℕ → Type 0
WordTells fold pieces text from to place word = (i j : ℕ) → (i + j) + 1 ≡ to → from ≤ j → tells word i ≡ takes_from fold pieces text place j

-- so it does of the place of this piece, if the other word does of the next, and `old` and `was` are told of the two
-- places with nothing of that part
abbrev pub TellsBefore : Bool → List ℕ → Piece → Bool → Bool → ℕ → ℕ → Type 0
TellsBefore fold words piece old was word result =
    (pieces : List Piece) (text : List ℕ) (from to count place : ℕ) (default : Piece)
    → place < length pieces → slice_index_or pieces place default ≡ piece
    → to ≤ length text → count + from ≡ to → count ≤ 64 → AreNoted fold text to count words
    → old ≡ takes_from fold pieces text place to → was ≡ takes_from fold pieces text (place + 1) to
    → WordTells fold pieces text from to (place + 1) word → WordTells fold pieces text from to place result

-- the table tells of the places from `row.place` on with this part of the text, and of those before it without
pub record RowStands (fold : Bool) (pieces : List Piece) (text : List ℕ) (from to : ℕ) (table : List Bool) (row : Row) : Type 0 where
  pub order : row.place ≤ length pieces
  pub was : row.was ≡ takes_from fold pieces text row.place to
  pub word : WordTells fold pieces text from to row.place row.word
  pub before : (k : ℕ) → k < row.place → slice_index_or table k false ≡ takes_from fold pieces text k to
  pub told : (k : ℕ) → row.place ≤ k → k ≤ length pieces → slice_index_or table k false ≡ takes_from fold pieces text k from
