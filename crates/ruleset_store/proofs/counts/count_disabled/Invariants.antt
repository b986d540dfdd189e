use Rattle.std.proofs.Common.{◌≡◌, take}
use Rattle.update_spec.specs.Judge.{count_disabled}
use Rattle.ruleset_store.proofs.counts.count_disabled.Given as goal

abbrev pub invariant-loop-set : goal.invariant-loop-set
invariant-loop-set l = l.count ≡ count_disabled (take l.set-index l.sets)
