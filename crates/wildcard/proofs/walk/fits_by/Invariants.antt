use Rattle.std.proofs.Common.{◌≤◌, length}
use Rattle.wildcard.specs.Places.{Stands}
use Rattle.wildcard.proofs.walk.fits_by.Given as goal

abbrev pub invariant-loop-left : goal.invariant-loop-left
invariant-loop-left l = record {
  within : l.left ≤ length l.text;
  stands : Stands l.fold l.pieces l.text l.left l.table;
}

abbrev pub decreases-loop-left : goal.decreases-loop-left
decreases-loop-left l = l.left
