use Rattle.std.proofs.Common.{rules, ◌≡◌}
use Rattle.verdict_shown.proofs.Changes.{shown_begin, shown_go_on}
use Rattle.verdict_shown.proofs.writing.put_changes.Goals as goal

pub loop-named-init : goal.loop-named-init
loop-named-init c = rw c.in_ok-shown.ensures.items (shown_begin _ _)

pub loop-named-preserved : goal.loop-named-preserved
loop-named-preserved c =
    let put = c.in_ok-put_change.ensures in
    rw c.in_ok-push.ensures.items (shown_go_on c.args.ops.now c.loop-named.into.items c.put_change.new.into.items c.loop-named.shown.items c.loop-named.named-index
    c.named-item.result c.in_ok-put_change.field-0 c.loop-named-test.true c.named-item.is c.loop-named.invariant put.grows put.read put.within)
