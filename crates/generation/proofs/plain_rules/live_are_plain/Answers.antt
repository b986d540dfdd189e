use Rattle.std.proofs.Common.{◌∙◌, ◌||◌, ap}
use Rattle.std.specs.List.{list_all}
use Rattle.rule_spec.specs.Rule.{Rule}
use Rattle.rule_spec.specs.State.{has_number}
use Rattle.generation.specs.Plain.{is_plain_rule}
use Rattle.generation.proofs.PlainRules.{live_are_plain}
use Rattle.generation.proofs.plain_rules.live_are_plain.Goals as goal

pub returns : goal.returns
returns g c =
    c.are_plain_or_off.ensures
    ∙ ap (list_all (λ (rule : Rule). is_plain_rule rule || has_number c.args.off.now rule.id)) c.as_slice.ensures
    ∙ live_are_plain c.args.off.now c.args.rules.now
