use Rattle.run_laws.proofs.Printed.{faults_are_counted}
use Rattle.run_laws.proofs.faults_are_counted.Goals as goal

pub returns : goal.returns
returns c = faults_are_counted
