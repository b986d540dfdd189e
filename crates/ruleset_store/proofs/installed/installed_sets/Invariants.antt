use Rattle.std.proofs.Common.{◌≡◌, map, take}
use Rattle.update_spec.specs.Update.{installed_set}
use Rattle.ruleset_store.proofs.installed.installed_sets.Given as goal

abbrev pub invariant-loop-set : goal.invariant-loop-set
invariant-loop-set l = l.sets.items ≡ map installed_set (take l.set-index l.set-items)
