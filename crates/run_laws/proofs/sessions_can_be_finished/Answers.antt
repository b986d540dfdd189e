use Rattle.run_laws.proofs.Finished.{sessions_can_be_finished}
use Rattle.run_laws.proofs.sessions_can_be_finished.Goals as goal

pub returns : goal.returns
returns c = sessions_can_be_finished
