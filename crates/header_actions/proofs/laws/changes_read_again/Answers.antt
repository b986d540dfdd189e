use Rattle.header_actions.proofs.ReadAgain.{reads_again}
use Rattle.header_actions.proofs.laws.changes_read_again.Goals as goal

pub returns : goal.returns
returns c = reads_again
