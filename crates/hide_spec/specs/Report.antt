-- Which lines of a filter list that are for hiding elements can't be used, and why.
use Rattle.std.specs.Prelude.{ℕ, ◌+◌, List, [], ◌∷◌, ◌++◌, Option, Some, None}
use Rattle.hide_spec.specs.declared.hide_reason.HideReason.{HideReason}
use Rattle.hide_spec.specs.declared.hide_reported.HideReported.{HideReported}
use Rattle.hide_spec.specs.HidingLine.{HideLine, other, hiding, unsupported, hide_line_of}

abbrev pub hide_reason_of : HideLine → Option HideReason
hide_reason_of other = None
hide_reason_of (hiding line) = None
hide_reason_of (unsupported reason) = Some reason

abbrev pub hide_report_of : ℕ → Option HideReason → List HideReported
hide_report_of number None = []
hide_report_of number (Some reason) = record { line = number; reason = reason } ∷ []

-- of these lines, of which the first has this number
abbrev pub hide_report_from : ℕ → List (List ℕ) → List HideReported
hide_report_from number [] = []
hide_report_from number (line ∷ lines) = hide_report_of number (hide_reason_of (hide_line_of line)) ++ hide_report_from (number + 1) lines

-- each line with a reason, in the order of lines
unfoldable pub hide_report : List (List ℕ) → List HideReported
hide_report lines = hide_report_from 1 lines
