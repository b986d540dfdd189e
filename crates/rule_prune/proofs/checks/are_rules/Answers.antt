use Rattle.std.proofs.Common.{rules, List, subst}
use Rattle.std.specs.Prelude.{All}
use Rattle.std.proofs.lemmas.List.{take_all}
use Rattle.rule_spec.specs.Rule.{Rule}
use Rattle.rule_spec.specs.IsRule.{IsRule}
use Rattle.rule_prune.proofs.Rules.{each_more}
use Rattle.rule_prune.proofs.checks.are_rules.Goals as goal

pub loop-rule-preserved : goal.loop-rule-preserved
loop-rule-preserved c = each_more c.args.rules.now c.loop-rule.rule-index c.rule-item.result c.loop-rule-test.true (search rules) c.condition-condition.ensures.rule c.loop-rule.invariant

pub returns : goal.returns
returns c = subst (λ (l : List Rule). All IsRule l) (take_all c.loop-rule.rule-index c.args.rules.now c.loop-rule-test.false) c.loop-rule.invariant
