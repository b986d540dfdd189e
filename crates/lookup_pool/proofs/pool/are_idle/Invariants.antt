use Rattle.std.proofs.Common.{take}
use Rattle.std.specs.List.{AllZip}
use Rattle.lookup_pool.proofs.pool.are_idle.Given as goal

abbrev pub invariant-loop-seat : goal.invariant-loop-seat
invariant-loop-seat g l = AllZip g.S.Seat.worked (take l.seat-index l.seats) (take l.seat-index l.seats)
