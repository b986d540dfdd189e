use Rattle.std.proofs.Common.{◌≡◌, ◌-◌, length, vec_len}
use Rattle.session_seats.specs.Seats.{AreSeats, HavePasses}
use Rattle.session_seats.proofs.serving.desks_of.Given as goal

abbrev pub invariant-loop-seat : goal.invariant-loop-seat
invariant-loop-seat g l = record {
  count : length l.desks.items ≡ l.seat;
  seats : AreSeats l.count l.desks.items;
  left : vec_len l.passes ≡ vec_len l.fn.passes - l.seat;
  passes : HavePasses (vec_len l.fn.passes) l.desks.items;
}
