use Rattle.std.proofs.Common.{◌≡◌, take, filter, not}
use Rattle.update_spec.specs.Update.{has_name}
use Rattle.ruleset_store.proofs.changes.without.Given as goal

abbrev pub invariant-loop-extension : goal.invariant-loop-extension
invariant-loop-extension l = l.next.items ≡ filter (λ extension. not (has_name l.name extension)) (take l.extension-index l.extensions)
