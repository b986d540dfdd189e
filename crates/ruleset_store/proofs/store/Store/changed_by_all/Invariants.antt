use Rattle.ruleset_store.proofs.Batches.{IsDoneTo}
use Rattle.ruleset_store.proofs.store.Store.changed_by_all.Given as goal

abbrev pub invariant-loop-place : goal.invariant-loop-place
invariant-loop-place l = IsDoneTo l.self l.updates l.place l.store
