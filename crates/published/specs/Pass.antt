-- What a clause sees of a pass, and why it does not learn.
use Rattle.std.specs.Prelude.{ℕ, ◌≡◌, ◌⊎◌, ◌<◌, List, [], length, Option, None, Some}
use Rattle.dnr_base.specs.Faults.{Rose}
use Rattle.update_spec.specs.Entries.{Entry}

-- the entries that it has seen, those of the copy that it entered last, and how often there was no copy to enter
pub record PassSeen : Type 0 where
  pub seen : List Entry
  pub entered : List Entry
  pub missed : ℕ

-- what a reader knows, where there is one
abbrev pub entered_of : {R : Type 0} → Option R → (R → List Entry) → List Entry
entered_of None known = []
entered_of (Some reader) known = known reader

abbrev pub HasSeenNothing : PassSeen → Type 0
HasSeenNothing pass = pass.seen ≡ []

-- there was no copy to enter, or one with fewer entries than the note
abbrev pub IsBehind : PassSeen → PassSeen → List Entry → Type 0
IsBehind before now note = Rose before.missed now.missed ⊎ (length now.entered < length note)
