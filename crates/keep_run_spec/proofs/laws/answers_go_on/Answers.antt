use Rattle.keep_run_spec.proofs.GoesOn.{answers_go_on}
use Rattle.keep_run_spec.proofs.laws.answers_go_on.Goals as goal

pub returns : goal.returns
returns c = answers_go_on
