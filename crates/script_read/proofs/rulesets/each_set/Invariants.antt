use Rattle.std.proofs.Common.{◌≡◌, ◌≤◌}
use Rattle.script_read.proofs.SetsRead.{AreReadSoFar}
use Rattle.script_read.proofs.rulesets.each_set.Given as goal

abbrev pub invariant-loop-value : goal.invariant-loop-value
invariant-loop-value g l = record {
  so_far : AreReadSoFar l.values l.sets l.value-index;
  calm : g.H.RegexHost.faults l.host ≡ g.H.RegexHost.faults l.fn.host;
  later : g.H.RegexHost.faults l.fn.host ≤ g.H.RegexHost.faults l.host;
}
