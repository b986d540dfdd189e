use Rattle.std.proofs.Common.{◌≡◌, take, flat_map}
use Rattle.rule_prune.specs.Walks.{removal_of}
use Rattle.rule_prune.proofs.finds.removals_of.Given as goal

abbrev pub invariant-loop-place : goal.invariant-loop-place
invariant-loop-place l = l.removals.items ≡ flat_map (removal_of l.rules) (take l.place l.rules)
