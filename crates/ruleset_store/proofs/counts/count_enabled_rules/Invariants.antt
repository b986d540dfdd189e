use Rattle.std.proofs.Common.{◌≡◌, take}
use Rattle.update_spec.specs.Judge.{count_rules, enabled_sets}
use Rattle.ruleset_store.proofs.counts.count_enabled_rules.Given as goal

abbrev pub invariant-loop-set : goal.invariant-loop-set
invariant-loop-set l = l.count ≡ count_rules (enabled_sets (take l.set-index l.sets))
