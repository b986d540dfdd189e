use Rattle.std.proofs.Common.{◌∙◌}
use Rattle.generation.specs.Plain.{level_in}
use Rattle.generation.proofs.Pieces.{three_levels, three_pairs}
use Rattle.generation.proofs.plain.PlainScan.strongest.Goals as goal

pub returns-clause-level : goal.returns-clause-level
returns-clause-level g c =
    three_levels c.args.self.now.suffixes c.args.self.now.request _ _ _ _ _ _ (level_in c.with_segments-session.result) (level_in c.with_segments-added.result) (level_in c.with_block.result)
    (c.segments.ensures.live ∙ c.session.ensures) (c.segments-2.ensures.live ∙ c.dynamic.ensures) c.of_sets.ensures
    c.with_segments-session.ensures.level c.with_segments-added.ensures.level c.with_block.ensures.level

pub returns-clause-bound : goal.returns-clause-bound
returns-clause-bound g c =
    three_pairs c.args.self.now.request _ _ _ _ _ _ c.args.steps.now c.with_segments-session.new.steps c.with_segments-added.new.steps c.with_block.new.steps
    (c.segments.ensures.live ∙ c.session.ensures) (c.segments-2.ensures.live ∙ c.dynamic.ensures) c.of_sets.ensures
    c.with_segments-session.ensures.bound c.with_segments-added.ensures.bound c.with_block.ensures.bound
