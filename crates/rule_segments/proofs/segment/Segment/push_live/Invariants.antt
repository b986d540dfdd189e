use Rattle.std.proofs.Common.{◌≡◌, ◌++◌, take}
use Rattle.update_spec.specs.Update.{without_ids}
use Rattle.rule_segments.proofs.segment.Segment.push_live.Given as goal

abbrev pub invariant-loop-rule : goal.invariant-loop-rule
invariant-loop-rule l = l.into.items ≡ l.fn.into.items ++ without_ids l.self.removed (take l.rule-index l.rule-items)
