use Rattle.run_laws.proofs.Finished.{rounds_in_turn_are_served}
use Rattle.run_laws.proofs.rounds_in_turn_are_served.Goals as goal

pub returns : goal.returns
returns c = rounds_in_turn_are_served
