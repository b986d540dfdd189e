use Rattle.rule_index.proofs.Found.{few_are_near}
use Rattle.rule_index.proofs.laws.few_rules_are_near.Goals as goal

pub returns : goal.returns
returns c = few_are_near
