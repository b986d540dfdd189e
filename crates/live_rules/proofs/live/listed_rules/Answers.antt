use Rattle.std.proofs.Common.{◌++◌, ◌∷◌, [], List, sym, ◌∙◌, ap, append-nil}
use Rattle.rule_spec.specs.Rule.{Rule}
use Rattle.live_rules.specs.Slots.{there, listed}
use Rattle.live_rules.proofs.Slots.{there_push}
use Rattle.live_rules.proofs.live.listed_rules.Goals as goal

pub loop-slot-preserved-in-Continue-1 : goal.loop-slot-preserved-in-Continue-1
loop-slot-preserved-in-Continue-1 c =
    c.in_ok-push.ensures.items
    ∙ ap (λ (rules : List Rule). rules ++ c.in-Some-into_rule.rule ∷ []) c.loop-slot.invariant
    ∙ ap (λ slot. there c.loop-slot.yielded ++ listed slot) (sym c.in-Some-into_rule.is ∙ c.into_rule.ensures)
    ∙ sym (there_push c.loop-slot.yielded c.in-Some.slot)

pub loop-slot-preserved : goal.loop-slot-preserved
loop-slot-preserved c =
    c.loop-slot.invariant
    ∙ sym (append-nil (there c.loop-slot.yielded))
    ∙ ap (λ slot. there c.loop-slot.yielded ++ listed slot) (sym c.in_default.is ∙ c.into_rule.ensures)
    ∙ sym (there_push c.loop-slot.yielded c.in-Some.slot)
