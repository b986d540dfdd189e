use Rattle.std.proofs.Common.{◌+◌, ◌∙◌, sym, subst}
use Rattle.json_spec.specs.RuleFields as form
use Rattle.json_spec.proofs.Each.{IsReadSoFar, read_goes}
use Rattle.rule_fields.proofs.forms.kinds_in.Goals as goal

pub loop-value-preserved : goal.loop-value-preserved
loop-value-preserved c =
    let l = c.loop-value in
    let values = c.args.values.now in
    subst (λ kinds. IsReadSoFar form.as_kind values kinds (l.value-index + 1)) (sym c.in_ok-push.ensures.items)
    (read_goes form.as_kind values l.value-index c.value-item.result l.kinds.items c.in-Some.kind c.loop-value-test.true c.value-item.is l.invariant (sym c.as_kind.ensures ∙ c.in-Some.is))
