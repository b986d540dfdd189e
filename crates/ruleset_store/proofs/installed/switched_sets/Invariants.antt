use Rattle.std.proofs.Common.{◌≡◌, map, take}
use Rattle.update_spec.specs.Update.{switched}
use Rattle.ruleset_store.proofs.installed.switched_sets.Given as goal

abbrev pub invariant-loop-set : goal.invariant-loop-set
invariant-loop-set l = l.next.items ≡ map (switched l.disable l.enable) (take l.set-index l.sets)
