use Rattle.std.proofs.Common.{arith}
use Rattle.std.proofs.lemmas.Grind.{common_steps}
use Rattle.std.proofs.lemmas.List.Folds.{list_any-append}
use Rattle.rule_prune.proofs.checks.removed_by.Goals as goal

pub loop-one-preserved : goal.loop-one-preserved
loop-one-preserved c = λ q. grind (arith, common_steps, list_any-append, c.loop-one.invariant q)
