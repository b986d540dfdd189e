use Rattle.std.proofs.Common.{string_bytes}
use Rattle.explain_report.proofs.Commas.{one_more}
use Rattle.explain_report.proofs.written.push_more.Goals as goal

pub loop-item-preserved : goal.loop-item-preserved
loop-item-preserved g c =
    one_more g.T.Written.text c.args.items.now c.loop-item.item-index c.item-item.result (string_bytes c.args.into.now) (string_bytes c.loop-item.into)
    (string_bytes c.push_str.new.self) (string_bytes c.push.new.into)
    c.loop-item-test.true c.item-item.is c.loop-item.invariant c.in_ok-push_str.ensures.bytes c.in_ok-push.ensures
