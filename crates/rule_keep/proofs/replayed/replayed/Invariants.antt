use Rattle.std.proofs.Common.{◌≡◌, ◌-◌, length}
use Rattle.rule_keep.specs.Replayed.{ReplayedSoFar}
use Rattle.rule_keep.proofs.replayed.replayed.Given as goal

abbrev pub invariant-loop-payload : goal.invariant-loop-payload
invariant-loop-payload g l = record {
  so_far : ReplayedSoFar l.name l.bytes (g.U.Updates.stands l.updates) l.place l.count l.live;
  calm : g.H.RegexHost.faults l.host ≡ g.H.RegexHost.faults l.fn.host;
}

abbrev pub decreases-loop-payload : goal.decreases-loop-payload
decreases-loop-payload g l = length l.bytes - l.place
