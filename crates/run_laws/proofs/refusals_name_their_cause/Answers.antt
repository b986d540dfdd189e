use Rattle.run_laws.proofs.Printed.{refusals_name_their_cause}
use Rattle.run_laws.proofs.refusals_name_their_cause.Goals as goal

pub returns : goal.returns
returns c = refusals_name_their_cause
