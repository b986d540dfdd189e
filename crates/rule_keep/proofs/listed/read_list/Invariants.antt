use Rattle.std.proofs.Common.{◌≡◌, ◌-◌, length}
use Rattle.ruleset_store.specs.Seen.{updates_seen}
use Rattle.rule_keep.specs.Listed.{ReadSoFar}
use Rattle.rule_keep.proofs.listed.read_list.Given as goal

abbrev pub invariant-loop-payload : goal.invariant-loop-payload
invariant-loop-payload g l = record {
  so_far : ReadSoFar l.name l.bytes (updates_seen l.list.items) l.at l.store;
  calm : g.H.RegexHost.faults l.host ≡ g.H.RegexHost.faults l.fn.host;
}

abbrev pub decreases-loop-payload : goal.decreases-loop-payload
decreases-loop-payload g l = length l.bytes - l.at
