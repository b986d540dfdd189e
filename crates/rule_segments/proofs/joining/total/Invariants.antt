use Rattle.std.proofs.Common.{◌≡◌, take}
use Rattle.rule_ids.specs.Counted.{counts_of}
use Rattle.rule_segments.specs.Segments.{live_among}
use Rattle.rule_segments.proofs.joining.total.Given as goal

abbrev pub invariant-loop-segment : goal.invariant-loop-segment
invariant-loop-segment l = l.counts ≡ counts_of (live_among (take l.segment-index l.segments))
