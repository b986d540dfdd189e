use Rattle.std.proofs.Common.{◌≡◌, take}
use Rattle.update_spec.specs.Update.{without_ids}
use Rattle.rule_segments.specs.Segments.{live_among}
use Rattle.rule_segments.proofs.rule_list.without.Given as goal

abbrev pub invariant-loop-segment : goal.invariant-loop-segment
invariant-loop-segment l = live_among l.next.items ≡ without_ids l.remove (live_among (take l.segment-index l.segments))
