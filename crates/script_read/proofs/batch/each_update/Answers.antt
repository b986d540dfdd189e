use Rattle.std.proofs.Common.{◌+◌, ◌∙◌, ap, arith}
use Rattle.script_read.proofs.BatchRead.{batch_goes_on, count_goes_on}
use Rattle.script_read.proofs.batch.each_update.Goals as goal

pub loop-value-preserved : goal.loop-value-preserved
loop-value-preserved g c =
    let l = c.loop-value in
    let before = l.invariant in
    let after = c.in-Ok.ensures in
    record {
      so_far = batch_goes_on c.args.values.now l.value-index l.place c.value-item.result l.updates.items c.push.new.self.items c.in-Ok.update c.loop-value-test.true c.value-item.is before.so_far before.place
          after.read c.in_ok-push-in-Ok.ensures.items;
      place = ap (λ n. n + 1) before.place;
      count = count_goes_on l.updates.items c.push.new.self.items c.in-Ok.update l.value-index before.count c.in_ok-push-in-Ok.ensures.items;
      calm = after.calm ∙ before.calm;
      later = omega (arith, before.later, after.later);
    }
