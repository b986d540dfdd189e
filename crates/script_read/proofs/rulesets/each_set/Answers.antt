use Rattle.std.proofs.Common.{List, ◌+◌, ◌∙◌, sym, subst, arith}
use Rattle.update_spec.specs.Update.{NewRuleSet}
use Rattle.script_read.proofs.SetsRead.{AreReadSoFar, sets_go}
use Rattle.script_read.proofs.rulesets.each_set.Goals as goal

pub loop-value-preserved : goal.loop-value-preserved
loop-value-preserved g c =
    let l = c.loop-value in
    let before = l.invariant in
    let after = c.in_ok-set.ensures in
    record {
      so_far = subst (λ (sets : List NewRuleSet). AreReadSoFar c.args.values.now sets (l.value-index + 1)) (sym c.in_ok-sets.ensures)
          (sets_go c.args.values.now l.value-index c.value-item.result l.sets c.in_ok-set.set c.loop-value-test.true c.value-item.is before.so_far after.read);
      calm = after.calm ∙ before.calm;
      later = omega (arith, before.later, after.later);
    }
