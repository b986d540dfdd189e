use Rattle.std.proofs.Common.{◌≡◌, length}
use Rattle.wildcard.specs.Places.{RowStands}
use Rattle.wildcard.proofs.places.step.Given as goal

abbrev pub invariant-loop-row : goal.invariant-loop-row
invariant-loop-row l = record {
  room : length l.table ≡ length l.fn.table;
  stands : RowStands l.fold l.pieces l.text l.from l.to l.table l.row;
}

abbrev pub decreases-loop-row : goal.decreases-loop-row
decreases-loop-row l = l.row.place
