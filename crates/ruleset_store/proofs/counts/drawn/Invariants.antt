use Rattle.std.proofs.Common.{◌≡◌, take}
use Rattle.update_spec.specs.Judge.{drawn}
use Rattle.ruleset_store.proofs.counts.drawn.Given as goal

abbrev pub invariant-loop-extension : goal.invariant-loop-extension
invariant-loop-extension l = l.drawn ≡ drawn (take l.extension-index l.extensions)
