use Rattle.std.proofs.Common.{take}
use Rattle.ruleset_store.specs.Ids.{HasWholes}
use Rattle.ruleset_store.proofs.ids.wholes_among.Given as goal

abbrev pub invariant-loop-id : goal.invariant-loop-id
invariant-loop-id l = HasWholes l.set (take l.id-index l.ids)
