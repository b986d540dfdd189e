use Rattle.std.proofs.Common.{◌∙◌, ap}
use Rattle.rule_segments.specs.Segments.{live_in}
use Rattle.generation.specs.Plain.{are_plain}
use Rattle.generation.proofs.PlainRules.{each_is_plain}
use Rattle.generation.proofs.plain_rules.list_is_plain.Goals as goal

pub returns : goal.returns
returns c = c.added_are_plain.ensures ∙ each_is_plain live_in c.segments.result.now ∙ ap are_plain c.segments.ensures.live
