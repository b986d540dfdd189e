use Rattle.std.proofs.Common.{ℕ, List, get_or, take, sym, ◌∙◌}
use Rattle.std.proofs.lemmas.Grind.{take_at_read}
use Rattle.rule_ids.proofs.IdSets.{put_again, put_more}
use Rattle.rule_ids.proofs.once.distinct.Goals as goal
use Rattle.rule_ids.proofs.once.distinct.Goals.{then-not-contains+in_ok-insert+in_ok-push, else-not-contains}

pub loop-id-preserved : goal.loop-id-preserved
loop-id-preserved c =
    let done : List ℕ = take c.loop-id.id-index c.args.ids.now in
    let x : ℕ = get_or c.args.ids.now c.loop-id.id-index 0 in
    let more = (take_at_read c.args.ids.now c.loop-id.id-index 0 c.loop-id-test.true).1 in
    elim c.if-not-contains.branch [
      | then-not-contains+in_ok-insert+in_ok-push w ↦ rw (w.known-is, w.once-is, w.in_ok-push.ensures.items, more)
          (put_more c.loop-id.known w.insert.new.self done c.loop-id.once.items x c.loop-id.invariant (sym c.contains.ensures ∙ w.if-not-contains.true) w.in_ok-insert.ensures.updates)
      | else-not-contains w ↦ rw (w.known-is, w.once-is, more)
          (put_again c.loop-id.known done c.loop-id.once.items x c.loop-id.invariant (sym c.contains.ensures ∙ w.if-not-contains.false))
    ]
