use Rattle.std.proofs.Common.{◌≡◌, ◌++◌, take}
use Rattle.rule_segments.proofs.shared_rule.SharedRule.push_all.Given as goal

abbrev pub invariant-loop-rule : goal.invariant-loop-rule
invariant-loop-rule l = l.into.items ≡ l.fn.into.items ++ take l.rule-index l.rules
