use Rattle.std.proofs.Common.{◌≡◌, take}
use Rattle.ruleset_store.proofs.changes.again.Given as goal

abbrev pub invariant-loop-extension : goal.invariant-loop-extension
invariant-loop-extension l = l.again.items ≡ take l.extension-index l.extensions
