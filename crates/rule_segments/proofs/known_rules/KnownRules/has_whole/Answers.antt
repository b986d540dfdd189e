use Rattle.std.proofs.Common.{pos, int_eq, ap, ◌∙◌}
use Rattle.std.specs.List.{list_any}
use Rattle.rule_spec.specs.Rule.{Rule}
use Rattle.rule_segments.proofs.Known.{has_known_whole}
use Rattle.rule_segments.proofs.known_rules.KnownRules.has_whole.Goals as goal

pub returns : goal.returns
returns g c =
    c.has_whole.ensures ∙ has_known_whole c.args.id.now c.deref.result.now c.known.result.now c.known.ensures
    ∙ ap (list_any (λ (rule : Rule). int_eq c.args.id.now (pos rule.id))) (c.deref.ensures ∙ c.self.view_is)
