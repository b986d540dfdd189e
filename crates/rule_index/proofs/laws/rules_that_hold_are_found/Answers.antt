use Rattle.rule_index.proofs.Found.{holders_are_found}
use Rattle.rule_index.proofs.laws.rules_that_hold_are_found.Goals as goal

pub returns : goal.returns
returns c = holders_are_found
