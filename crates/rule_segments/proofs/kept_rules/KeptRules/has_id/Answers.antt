use Rattle.std.proofs.Common.{List, ap, ◌∙◌}
use Rattle.rule_spec.specs.Rule.{Rule}
use Rattle.update_spec.specs.Judge.{has_id}
use Rattle.rule_segments.specs.Segments.{Segment, live_among}
use Rattle.rule_segments.proofs.Tapered.{has_among}
use Rattle.rule_segments.proofs.kept_rules.KeptRules.has_id.Goals as goal

pub returns : goal.returns
returns c =
    c.has_live.ensures ∙ has_among c.as_slice.result.now c.args.id ∙ ap (λ (segments : List Segment). has_id (live_among segments) c.args.id) c.as_slice.ensures.value
    ∙ ap (λ (rules : List Rule). has_id rules c.args.id) c.self.view_is
