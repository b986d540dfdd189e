-- A range that is cut off at the end of the texts is the same range.
use Rattle.std.proofs.Common.{◌≡◌, ℕ, ◌+◌, List, length, min, arith}
use Rattle.std.specs.List.{slice_range}
use Rattle.std.proofs.lemmas.Grind.{common_steps}

pub within_texts : (texts : List ℕ) (at len : ℕ) → slice_range texts (min at (min (at + len) (length texts))) (min (at + len) (length texts)) ≡ slice_range texts at (at + len)
within_texts texts at len = grind (arith, common_steps)
