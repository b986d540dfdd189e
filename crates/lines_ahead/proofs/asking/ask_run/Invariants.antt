use Rattle.std.proofs.Common.{◌≡◌}
use Rattle.lines_ahead.proofs.asking.ask_run.Given as goal

abbrev pub invariant-loop-line : goal.invariant-loop-line
invariant-loop-line l = l.lines ≡ l.initial.lines
