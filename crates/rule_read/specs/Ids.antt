-- Ids that rise.
use Rattle.std.specs.Prelude.{◌≤◌, ◌<◌, ℕ, List, length, get_or}

-- none stands before a lower one
abbrev pub IsRising : List ℕ → Type 0
IsRising ids = (i j : ℕ) → i ≤ j → j < length ids → get_or ids i 0 ≤ get_or ids j 0

-- none is above this one
abbrev pub AreUpTo : ℕ → List ℕ → Type 0
AreUpTo greatest ids = (i : ℕ) → i < length ids → get_or ids i 0 ≤ greatest
