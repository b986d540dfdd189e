use Rattle.run_laws.proofs.Finished.{served_rounds_go_on}
use Rattle.run_laws.proofs.served_rounds_go_on.Goals as goal

pub returns : goal.returns
returns c = served_rounds_go_on
