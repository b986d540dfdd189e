-- What a table keeps of its longest text.
use Rattle.std.specs.Prelude.{◌≡◌, ◌<◌, ℕ, List, length, false, String}
use Rattle.std.specs.HashSet.{HashSet, contains_text}

-- no text of the set is longer
pub record IsShort {Y S : Type 0} (texts : HashSet (String Y) S) (longest : ℕ) : Type 0 where
  pub none : (q : List ℕ) → longest < length q → contains_text texts q ≡ false
