use Rattle.run_laws.proofs.Printed.{verdicts_are_scans}
use Rattle.run_laws.proofs.verdicts_are_scans.Goals as goal

pub returns : goal.returns
returns c = verdicts_are_scans
