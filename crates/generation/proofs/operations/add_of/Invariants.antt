use Rattle.std.proofs.Common.{◌≡◌, ◌++◌, drop}
use Rattle.generation.specs.Choice.{ops_at}
use Rattle.generation.proofs.operations.add_of.Given as goal

abbrev pub invariant-loop-place : goal.invariant-loop-place
invariant-loop-place l = l.fn.ops.items ++ ops_at l.direction l.offers l.places ≡ l.ops.items ++ ops_at l.direction l.offers (drop l.place-index l.places)
