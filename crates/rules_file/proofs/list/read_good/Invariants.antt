use Rattle.std.proofs.Common.{length, ◌≡◌, ◌≤◌}
use Rattle.rule_read.specs.Reading.{Taken}
use Rattle.rules_file.proofs.Steps.{IsReadSoFar}
use Rattle.rules_file.proofs.list.read_good.Given as goal

abbrev pub invariant-items : goal.invariant-items
invariant-items g l = record {
  so_far : IsReadSoFar l.depth l.kind l.initial.reader l.reader l.rules.items;
  shorter : length l.reader ≤ length l.initial.reader;
  taken : Taken l.taken l.rules.items;
  calm : g.H.RegexHost.faults l.host ≡ g.H.RegexHost.faults l.initial.host;
}

abbrev pub decreases-items : goal.decreases-items
decreases-items g l = length l.reader
