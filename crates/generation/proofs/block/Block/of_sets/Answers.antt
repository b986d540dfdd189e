use Rattle.generation.proofs.Blocks.{sets_lives}
use Rattle.generation.proofs.block.Block.of_sets.Goals as goal

pub returns : goal.returns
returns c = sets_lives 0 c.args.extension.now.sets
