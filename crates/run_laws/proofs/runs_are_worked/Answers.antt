use Rattle.run_laws.proofs.Runs.{runs_are_worked}
use Rattle.run_laws.proofs.runs_are_worked.Goals as goal

pub returns : goal.returns
returns c = runs_are_worked
