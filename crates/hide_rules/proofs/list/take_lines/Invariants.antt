use Rattle.std.proofs.Common.{◌≤◌, ◌+◌, length}
use Rattle.list_spec.specs.LineKind.{lines_of}
use Rattle.hide_rules.proofs.Walk.{IsAt}
use Rattle.hide_rules.proofs.list.take_lines.Given as goal

abbrev pub invariant-lines : goal.invariant-lines
invariant-lines l = record {
  at : IsAt (lines_of l.lines) (lines_of l.rest) l.number l.taken;
  short : l.number + length l.rest ≤ length l.lines + 1;
}

abbrev pub decreases-lines : goal.decreases-lines
decreases-lines l = length l.rest
