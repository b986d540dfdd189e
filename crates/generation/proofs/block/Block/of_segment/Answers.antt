use Rattle.generation.proofs.Blocks.{segment_lives}
use Rattle.generation.proofs.block.Block.of_segment.Goals as goal

pub returns : goal.returns
returns c = segment_lives c.args.rank c.args.set.now c.args.segment.now.removed 0 c.args.segment.now.rules
