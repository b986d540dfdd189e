use Rattle.rule_index.proofs.Shown.{needs_are_shown}
use Rattle.rule_index.proofs.laws.needs_are_shown.Goals as goal

pub returns : goal.returns
returns c = needs_are_shown
