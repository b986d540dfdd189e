use Rattle.compile_laws.proofs.Scanned as proof
use Rattle.compile_laws.proofs.lists_block_what_they_say.Goals as goal

pub returns : goal.returns
returns c = proof.lists_block_what_they_say
