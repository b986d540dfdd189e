use Rattle.run_laws.proofs.Finished.{what_stands_is_a_beginning}
use Rattle.run_laws.proofs.what_stands_is_a_beginning.Goals as goal

pub returns : goal.returns
returns c = what_stands_is_a_beginning
