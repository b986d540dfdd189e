use Rattle.std.proofs.Common.{◌∙◌}
use Rattle.generation.proofs.MostSegments.{most_of_two}
use Rattle.generation.proofs.segments.segments_of.Goals as goal

pub returns-clause-most : goal.returns-clause-most
returns-clause-most c =
    most_of_two c.args.extension.now c.segments-session.result.now c.segments-dynamic.result.now c.max.result
    (record { live = c.segments-session.ensures.live ∙ c.session.ensures; few = c.segments-session.ensures.few; half = c.segments-session.ensures.half })
    (record { live = c.segments-dynamic.ensures.live ∙ c.dynamic.ensures; few = c.segments-dynamic.ensures.few; half = c.segments-dynamic.ensures.half })
    c.max.ensures
