use Rattle.std.proofs.Common.{◌≡◌, map, take}
use Rattle.prune_spec.specs.Pruned as spec
use Rattle.rule_prune.proofs.finds.needless_of.Given as goal

abbrev pub invariant-loop-place : goal.invariant-loop-place
invariant-loop-place l = l.needless.items ≡ map (spec.is_needless l.rules) (take l.place l.rules)
