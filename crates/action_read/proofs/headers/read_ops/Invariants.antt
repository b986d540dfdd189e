use Rattle.action_read.proofs.Ops.{AreReadSoFar}
use Rattle.action_read.proofs.headers.read_ops.Given as goal

abbrev pub invariant-loop-change : goal.invariant-loop-change
invariant-loop-change l = AreReadSoFar l.direction l.changes l.ops.items l.change-index
