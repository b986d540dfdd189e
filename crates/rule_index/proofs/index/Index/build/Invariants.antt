use Rattle.std.proofs.Common.{◌≡◌, fold, length}
use Rattle.rule_index.specs.Index as spec
use Rattle.rule_index.specs.Lists.{placed, placed_from}
use Rattle.rule_index.proofs.index.Index.build.Given as goal

abbrev pub invariant-loop-rule : goal.invariant-loop-rule
invariant-loop-rule l = fold spec.with_placed l.draft (placed_from l.place l.left) ≡ fold spec.with_placed spec.empty_index (placed l.fn.rules)

abbrev pub decreases-loop-rule : goal.decreases-loop-rule
decreases-loop-rule l = length l.left
