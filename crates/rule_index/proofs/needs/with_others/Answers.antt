use Rattle.std.proofs.Common.{ap, ◌∙◌, sym, ◌+◌}
use Rattle.dnr_base.specs.Kind.{all_kinds}
use Rattle.rule_index.specs.Needs.{with_bit, with_bits, places_of_others}
use Rattle.rule_index.proofs.needs.with_others.Goals as goal

pub returns-then-is_default : goal.returns-then-is_default
returns-then-is_default c =
    c.with_bit.ensures ∙ ap (λ place. with_bit c.args.bits (112 + place)) c.place.ensures.value
    ∙ sym (ap (λ kinds. with_bits c.args.bits (places_of_others kinds all_kinds)) (c.is_default.ensures c.if-is_default.true))
