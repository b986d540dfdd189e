use Rattle.std.proofs.Common.{◌<◌, take}
use Rattle.std.specs.List.{AllZip}
use Rattle.lookup_pool.proofs.tools.are_idle.Given as goal

abbrev pub invariant-loop-seat : goal.invariant-loop-seat
invariant-loop-seat g l = record {
  worked : AllZip (g.S.ToolSeat.worked l.shared) (take l.seat-index l.seats) (take l.seat-index l.seats);
  used : 0 < l.seat-index → (tool : g.row.T.Denot) → g.S.ToolSeat.used tool tool;
}
