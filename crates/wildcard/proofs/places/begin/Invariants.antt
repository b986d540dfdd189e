use Rattle.wildcard.specs.Places.{EndStands}
use Rattle.wildcard.proofs.places.begin.Given as goal

abbrev pub invariant-loop-place : goal.invariant-loop-place
invariant-loop-place l = EndStands l.pieces l.table l.place l.now

abbrev pub decreases-loop-place : goal.decreases-loop-place
decreases-loop-place l = l.place
