use Rattle.run_laws.proofs.Finished.{sessions_may_answer_in_turn}
use Rattle.run_laws.proofs.sessions_may_answer_in_turn.Goals as goal

pub returns : goal.returns
returns c = sessions_may_answer_in_turn
