use Rattle.std.proofs.Common.{take}
use Rattle.rule_ids.proofs.IdSets.{AreOnce}
use Rattle.rule_ids.proofs.once.distinct.Given as goal

abbrev pub invariant-loop-id : goal.invariant-loop-id
invariant-loop-id l = AreOnce l.known (take l.id-index l.ids) l.once.items
