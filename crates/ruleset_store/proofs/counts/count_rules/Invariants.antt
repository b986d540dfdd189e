use Rattle.std.proofs.Common.{◌≡◌, take}
use Rattle.update_spec.specs.Judge.{count_rules}
use Rattle.ruleset_store.proofs.counts.count_rules.Given as goal

abbrev pub invariant-loop-set : goal.invariant-loop-set
invariant-loop-set l = l.count ≡ count_rules (take l.set-index l.sets)
