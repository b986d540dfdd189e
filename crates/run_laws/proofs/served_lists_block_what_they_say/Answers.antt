use Rattle.run_laws.proofs.Listed.{served_lists_block_what_they_say}
use Rattle.run_laws.proofs.served_lists_block_what_they_say.Goals as goal

pub returns : goal.returns
returns c = served_lists_block_what_they_say
