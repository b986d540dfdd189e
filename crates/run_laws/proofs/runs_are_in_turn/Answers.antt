use Rattle.run_laws.proofs.Runs.{runs_are_in_turn}
use Rattle.run_laws.proofs.runs_are_in_turn.Goals as goal

pub returns : goal.returns
returns c = runs_are_in_turn
