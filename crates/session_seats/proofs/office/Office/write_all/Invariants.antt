use Rattle.std.proofs.Common.{◌≡◌, []}
use Rattle.session_seats.proofs.Offices.{SaidSoFar}
use Rattle.session_seats.proofs.office.Office.write_all.Given as goal

abbrev pub invariant-loop-line : goal.invariant-loop-line
invariant-loop-line g l = record {
  so_far : SaidSoFar g.P.Pair.opening l.lines l.fn.self.list l.line-index l.self.list l.self.texts;
  idle : l.self.staged ≡ [];
}
