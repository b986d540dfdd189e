-- The next place of a text that may have a separator.
use Rattle.std.specs.Prelude.{◌≡◌, ◌≤◌, ℕ, List, length, false, Option, None, Some}
use Rattle.std.specs.Borrow.{Bor}
use Rattle.list_spec.specs.LineKind.{hides}

-- no separator stands before what is left
abbrev pub IsNextSign : List ℕ → Option (Bor (List ℕ)) → Type 0
IsNextSign text None = hides text ≡ false
IsNextSign text (Some here) = (hides text ≡ hides here.now) × (length here.now ≤ length text)
