use Rattle.std.proofs.Common.{arith}
use Rattle.std.proofs.Math.Facts.{to_z-of_z}
use Rattle.ruleset_store.proofs.IdSets.{small}
use Rattle.ruleset_store.proofs.ids.has_number.Goals as goal

pub returns : goal.returns
returns c = simp (to_z-of_z (small c.args.id (omega (arith, c.ranges.id))), c.from.ensures) at c.contains.ensures
