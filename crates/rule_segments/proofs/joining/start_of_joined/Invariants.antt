use Rattle.std.proofs.Common.{◌≡◌, ◌+◌, ◌≤◌, drop, length}
use Rattle.rule_segments.specs.Segments.{live_among}
use Rattle.rule_segments.proofs.joining.start_of_joined.Given as goal

abbrev pub invariant-loop-start : goal.invariant-loop-start
invariant-loop-start l = record { within : l.start ≤ length l.segments; count : l.count ≡ length (live_among (drop l.start l.segments)) + l.newer }

abbrev pub decreases-loop-start : goal.decreases-loop-start
decreases-loop-start l = l.start
