use Rattle.run_laws.proofs.Listed.{lists_block}
use Rattle.run_laws.proofs.lists_block_what_they_say.Goals as goal

pub returns : goal.returns
returns c = lists_block
