use Rattle.std.proofs.Common.{◌∙◌, arith}
use Rattle.rule_read.proofs.Asking.{asks_for_next}
use Rattle.rule_read.proofs.ReadLists.{list_goes}
use Rattle.rule_read.proofs.rules.read_list.Goals as goal

pub loop-value-preserved : goal.loop-value-preserved
loop-value-preserved g c =
    let before = c.loop-value.invariant in
    let after = c.in_ok-read_next.ensures in
    record {
      taken = after.taken;
      so_far = list_goes c.args.kind c.args.values.now c.loop-value.value-index _ _ _ c.loop-value-test.true c.value-item.is before.so_far after.read;
      asked = asks_for_next g.H.RegexHost.asks _ _ _ _ _ before.asked after.asked;
      calm = after.calm ∙ before.calm;
      later = omega (arith, before.later, after.later);
    }
