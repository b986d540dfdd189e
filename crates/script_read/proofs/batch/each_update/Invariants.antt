use Rattle.std.proofs.Common.{◌≡◌, ◌≤◌, length}
use Rattle.ruleset_store.specs.Seen.{updates_seen}
use Rattle.script_read.proofs.BatchRead.{AreReadSoFar}
use Rattle.script_read.proofs.batch.each_update.Given as goal

abbrev pub invariant-loop-value : goal.invariant-loop-value
invariant-loop-value g l = record {
  so_far : AreReadSoFar l.values (updates_seen l.updates.items) l.value-index;
  place : l.place ≡ l.value-index;
  count : length l.updates.items ≡ l.value-index;
  calm : g.H.RegexHost.faults l.host ≡ g.H.RegexHost.faults l.fn.host;
  later : g.H.RegexHost.faults l.fn.host ≤ g.H.RegexHost.faults l.host;
}
