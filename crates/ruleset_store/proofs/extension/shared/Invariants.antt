use Rattle.std.proofs.Common.{◌≡◌, ◌++◌, length}
use Rattle.std.specs.Vec.Iter.{into_iter_items, into_iter_len}
use Rattle.ruleset_store.proofs.extension.shared.Given as goal

abbrev pub invariant-loop-set : goal.invariant-loop-set
invariant-loop-set l =
    (l.shared.items ++ into_iter_items l.set-iterator ≡ l.fn.sets.items)
    × (into_iter_len l.set-iterator ≡ length (into_iter_items l.set-iterator))
