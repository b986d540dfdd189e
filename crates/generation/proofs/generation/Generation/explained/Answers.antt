use Rattle.std.proofs.Common.{◌∙◌}
use Rattle.generation.proofs.Reasons.{explanation_is}
use Rattle.generation.proofs.generation.Generation.explained.Goals as goal

pub returns-in-Ok-newest_first-clause-explanation : goal.returns-in-Ok-newest_first-clause-explanation
returns-in-Ok-newest_first-clause-explanation g c =
    let known = c.args.self.now in
    explanation_is known.suffixes known.state c.args.request.now c.in-Ok.verdict c.build.result c.args.kepts.now c.requires c.in-Ok.ensures.verdict
    (c.build.ensures ∙ c.in-Ok-newest_first.ensures)
