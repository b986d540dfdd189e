-- What is taken in of the lines of a list.
use Rattle.std.specs.Prelude.{◌≡◌, ◌<◌, ℕ, List, [], ◌∷◌, ◌++◌, map, length, Option, Some, None}
use Rattle.hide_spec.specs.HidingLine.{HidingLine, HideLine}
use Rattle.hide_spec.specs.Hidden.{hiding_in, max_hiding}
use Rattle.hide_spec.specs.Report.{hide_reason_of, hide_report_of}
use Rattle.hide_rules.specs.declared.list.Taken.{Taken}
use Rattle.hide_rules.specs.declared.list.HideRefusal.{HideRefusal}
use Rattle.hide_rules.specs.declared.list.HideRefusal.TheVariants.{TooManyLines, NoMemory}
use Rattle.hide_rules.specs.Seen.{hiding_seen}

-- the refusal tells the number of lines, which is too great; want of memory tells nothing
abbrev pub CountsTooMany : List HidingLine → HideRefusal → Type 0
CountsTooMany lines (TooManyLines count) = (count ≡ length lines) × (max_hiding < count)
CountsTooMany lines NoMemory = Unit {0}

abbrev pub hiding_of : Option HidingLine → List HidingLine
hiding_of None = []
hiding_of (Some line) = line ∷ []

-- what a line says stands behind what those before it said
pub record TakesIn (number : ℕ) (line : HideLine) (old new : Taken) : Type 0 where
  pub lines : map hiding_seen new.lines.items ≡ map hiding_seen old.lines.items ++ hiding_of (hiding_in line)
  pub reported : new.reported.items ≡ old.reported.items ++ hide_report_of number (hide_reason_of line)
