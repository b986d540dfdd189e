-- What a writer shows, and what it has staged.
use Rattle.std.specs.Prelude.{◌≡◌, ◌⊎◌, ℕ, List, [], ◌∷◌, ◌++◌, length, drop, Option, None, Some}
use Rattle.update_spec.specs.Entries.{Entry, after}
use Rattle.published.specs.Shared.{Copy}

-- the accepted entries, and the one that is staged, if any; and how often there was no place for a pass
pub record Listed : Type 0 where
  pub list : List Entry
  pub staged : List Entry
  pub unplaced : ℕ

abbrev pub with_unplaced : Listed → ℕ → Listed
with_unplaced writer count = record { list = writer.list; staged = writer.staged; unplaced = count }

-- the copies that are to come: the one that is kept aside, and those that were handed on
abbrev pub coming : Option Copy → List Copy → List Copy
coming None handed = handed
coming (Some kept) handed = kept ∷ handed

-- what the next copy has beyond this one
abbrev pub beyond : Copy → List Copy → List Entry
beyond copy [] = []
beyond copy (next ∷ more) = drop (length copy.list) next.list

-- the copy with one entry more
abbrev pub next_of : Copy → Entry → Copy
next_of copy entry = record {
  basis = record { suffixes = copy.basis.suffixes; state = after copy.basis.state entry };
  book = copy.book;
  list = copy.list ++ entry ∷ [];
}

-- at most one copy is to come, with one entry more
abbrev pub IsOneAhead : Copy → List Copy → Type 0
IsOneAhead copy copies = (copies ≡ []) ⊎ ((entry : Entry) × (copies ≡ next_of copy entry ∷ []))
