use Rattle.rule_index.proofs.Counted.{candidates_are_counted}
use Rattle.rule_index.proofs.laws.candidates_are_counted.Goals as goal

pub returns : goal.returns
returns c = candidates_are_counted
