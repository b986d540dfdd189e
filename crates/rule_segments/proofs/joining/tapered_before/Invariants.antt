use Rattle.std.proofs.Common.{◌++◌, length}
use Rattle.rule_segments.specs.Segments.{live_among}
use Rattle.rule_segments.proofs.Tapered.{Tapers}
use Rattle.rule_segments.proofs.joining.tapered_before.Given as goal

abbrev pub invariant-loop-last : goal.invariant-loop-last
invariant-loop-last l = Tapers (live_among l.segments ++ live_among l.fn.behind.items) l.left l.next.items

abbrev pub decreases-loop-last : goal.decreases-loop-last
decreases-loop-last l = length l.left
