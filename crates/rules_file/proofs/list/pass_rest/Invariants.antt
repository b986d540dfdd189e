use Rattle.std.proofs.Common.{length, ◌≤◌}
use Rattle.rules_file.proofs.Steps.{IsPassed}
use Rattle.rules_file.proofs.list.pass_rest.Given as goal

abbrev pub invariant-items : goal.invariant-items
invariant-items l = record {
  passed : IsPassed l.depth l.initial.reader l.reader;
  shorter : length l.reader ≤ length l.initial.reader;
}

abbrev pub decreases-items : goal.decreases-items
decreases-items l = length l.reader
