use Rattle.rule_index.proofs.Counted.{near_are_counted}
use Rattle.rule_index.proofs.laws.near_are_counted.Goals as goal

pub returns : goal.returns
returns c = near_are_counted
