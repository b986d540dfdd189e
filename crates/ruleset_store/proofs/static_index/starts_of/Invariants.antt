use Rattle.std.proofs.Common.{◌≡◌, ◌++◌, drop}
use Rattle.ruleset_store.specs.StaticIndex.{lists_of, starts_from}
use Rattle.ruleset_store.proofs.static_index.starts_of.Given as goal

abbrev pub invariant-loop-set : goal.invariant-loop-set
invariant-loop-set l = l.starts.items ++ starts_from l.start (lists_of (drop l.set-index l.sets)) ≡ starts_from 0 (lists_of l.sets)
