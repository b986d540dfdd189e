use Rattle.std.proofs.Common.{◌≡◌, length}
use Rattle.generation.specs.LongFrames.{AreLong}
use Rattle.generation.proofs.long_frames.long_frames.Given as goal

abbrev pub invariant-loop-place : goal.invariant-loop-place
invariant-loop-place l = (length l.long.items ≡ l.place) × AreLong l.long.items l.request
