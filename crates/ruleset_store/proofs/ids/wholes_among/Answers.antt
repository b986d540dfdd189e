use Rattle.std.proofs.Common.{ℤ, pos, List, take, subst, sym}
use Rattle.std.proofs.lemmas.Grind.{take_at_read}
use Rattle.ruleset_store.specs.Ids.{HasWholes}
use Rattle.ruleset_store.proofs.IdSets.{more_wholes}
use Rattle.ruleset_store.proofs.ids.wholes_among.Goals as goal

pub loop-id-preserved : goal.loop-id-preserved
loop-id-preserved c =
    let old = c.loop-id.set in
    let new = c.add_whole.new.set in
    let done = take c.loop-id.id-index c.args.ids.now in
    subst (λ (ids : List ℤ). HasWholes new ids) (sym (take_at_read c.args.ids.now c.loop-id.id-index (pos 0) c.loop-id-test.true).1)
    (more_wholes old new done _ c.loop-id.invariant c.in_ok-add_whole.ensures)
