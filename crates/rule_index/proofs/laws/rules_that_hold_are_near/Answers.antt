use Rattle.rule_index.proofs.Found.{holders_are_near}
use Rattle.rule_index.proofs.laws.rules_that_hold_are_near.Goals as goal

pub returns : goal.returns
returns c = holders_are_near
