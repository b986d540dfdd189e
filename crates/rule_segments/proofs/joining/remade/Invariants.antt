use Rattle.std.proofs.Common.{◌≡◌, take}
use Rattle.rule_segments.specs.Segments.{live_among}
use Rattle.rule_segments.proofs.joining.remade.Given as goal

abbrev pub invariant-loop-segment : goal.invariant-loop-segment
invariant-loop-segment l = l.handles.items ≡ live_among (take l.segment-index l.segments)
