use Rattle.generation.specs.Plain.{level_in}
use Rattle.generation.proofs.PlainHits.{both_counts, both_levels}
use Rattle.generation.proofs.plain.PlainScan.with_block.Goals as goal

pub returns-clause-level : goal.returns-clause-level
returns-clause-level g c =
    both_levels c.args.self.now.suffixes c.args.self.now.request c.args.block.now c.index-index.result.now (level_in c.args.best) (level_in c.with_own-own.result) (level_in c.with_frames.result)
    c.index-index.ensures c.with_own-own.ensures.view c.with_frames.ensures.views c.with_own-own.ensures.level c.with_frames.ensures.level

pub returns-clause-bound : goal.returns-clause-bound
returns-clause-bound g c =
    both_counts c.args.self.now.suffixes c.args.self.now.request c.args.block.now c.index-index.result.now c.args.steps.now c.with_own-own.new.steps c.with_frames.new.steps
    c.index-index.ensures c.with_own-own.ensures.few c.with_frames.ensures.few
