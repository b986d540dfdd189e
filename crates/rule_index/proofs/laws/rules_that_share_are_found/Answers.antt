use Rattle.rule_index.proofs.Found.{sharers_are_found}
use Rattle.rule_index.proofs.laws.rules_that_share_are_found.Goals as goal

pub returns : goal.returns
returns c = sharers_are_found
