use Rattle.std.proofs.Common.{◌≡◌, length}
use Rattle.request_given.specs.Reads.{frame_of}
use Rattle.request_given.proofs.Each.{AreReadSoFar}
use Rattle.request_given.proofs.reading.each_frame.Given as goal

abbrev pub invariant-loop-frame : goal.invariant-loop-frame
invariant-loop-frame l = AreReadSoFar frame_of l.frames l.read.items l.frame-index × (length l.read.items ≡ l.frame-index)
