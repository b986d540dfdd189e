use Rattle.std.proofs.Common.{take}
use Rattle.std.specs.Prelude.{All}
use Rattle.rule_spec.specs.IsRule.{IsRule}
use Rattle.rule_prune.proofs.checks.are_rules.Given as goal

abbrev pub invariant-loop-rule : goal.invariant-loop-rule
invariant-loop-rule l = All IsRule (take l.rule-index l.rules)
