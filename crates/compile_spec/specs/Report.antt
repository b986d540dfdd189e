-- Which lines of a filter list give nothing, and why; and at which of them a host of patterns is asked.
use Rattle.std.specs.Prelude.{◌≡◌, ℕ, zero, suc, ◌+◌, ◌≤◌, List, [], ◌∷◌, ◌++◌, length, slice_get, Option, Some, None}
use Rattle.list_spec.specs.declared.reason.Reason.{Reason}
use Rattle.list_spec.specs.LineKind.{FilterLine, filter_line, regex, line_of}
use Rattle.list_spec.specs.Says.{max_regex, reason_of}
use Rattle.compile_spec.specs.declared.reported.Reported.{Reported}

-- ---- lines that give nothing

abbrev pub report_of : ℕ → Option Reason → List Reported
report_of number None = []
report_of number (Some reason) = record { line = number; reason = reason } ∷ []

-- of these lines, of which the first has this number
abbrev pub report_from : ℕ → List (List ℕ) → List Reported
report_from number [] = []
report_from number (line ∷ lines) = report_of number (reason_of (line_of line)) ++ report_from (number + 1) lines

-- each line that is neither blank nor a comment nor a header and gives no filter, with its reason, in the order of lines
unfoldable pub report : List (List ℕ) → List Reported
report lines = report_from 1 lines

-- ---- where a host of patterns is asked

-- lines are counted from 1
abbrev pub line_at : List (List ℕ) → ℕ → Option (List ℕ)
line_at lines zero = None
line_at lines (suc place) = slice_get lines place

-- the line of this number is a filter whose pattern is a regular expression, and not too long to be asked about
pub record StopsAtLine (lines : List (List ℕ)) (number : ℕ) : Type 0 where
  pub line : List ℕ
  pub filter : FilterLine
  pub pattern : List ℕ
  pub there : line_at lines number ≡ Some line
  pub reads : line_of line ≡ filter_line filter
  pub regex : filter.pattern ≡ regex pattern
  pub short : length pattern ≤ max_regex
