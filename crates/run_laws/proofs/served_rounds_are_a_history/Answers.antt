use Rattle.run_laws.proofs.Laws.{served_rounds_are_a_history}
use Rattle.run_laws.proofs.served_rounds_are_a_history.Goals as goal

pub returns : goal.returns
returns c = served_rounds_are_a_history
