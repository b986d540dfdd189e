use Rattle.std.proofs.Common.{◌≡◌, take}
use Rattle.ruleset_store.proofs.extension.sets_again.Given as goal

abbrev pub invariant-loop-set : goal.invariant-loop-set
invariant-loop-set l = l.again.items ≡ take l.set-index l.sets
