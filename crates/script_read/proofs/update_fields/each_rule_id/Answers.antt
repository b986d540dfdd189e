use Rattle.std.proofs.Common.{List, ℕ, ◌+◌, sym, subst}
use Rattle.script_read.proofs.Ids.{AreReadSoFar, ids_go}
use Rattle.script_read.proofs.update_fields.each_rule_id.Goals as goal

pub loop-value-preserved : goal.loop-value-preserved
loop-value-preserved c =
    let l = c.loop-value in
    subst (λ (ids : List ℕ). AreReadSoFar c.args.values.now ids (l.value-index + 1)) (sym c.in_ok-push_id.ensures)
    (ids_go c.args.values.now l.value-index c.value-item.result l.ids.items c.in-Some.id c.loop-value-test.true c.value-item.is l.invariant (sym c.in-Some.ensures))
