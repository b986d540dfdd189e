use Rattle.script_read.proofs.FramesRead.{AreReadSoFar}
use Rattle.script_read.proofs.frames.each_frame.Given as goal

abbrev pub invariant-loop-value : goal.invariant-loop-value
invariant-loop-value l = AreReadSoFar l.values l.frames.items l.value-index
