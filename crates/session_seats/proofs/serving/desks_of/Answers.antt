use Rattle.std.proofs.Common.{List, Option, length, vec_len, ap, sym, subst, arith}
use Rattle.std.specs.Prelude.{IsSome}
use Rattle.std.proofs.lemmas.List.{length_push}
use Rattle.published.specs.Pass.{PassSeen}
use Rattle.session_seats.specs.Seats.{DeskSeen, AreSeats, HavePasses}
use Rattle.session_seats.proofs.Parts.{one_pass_more, one_seat_more, one_taken}
use Rattle.session_seats.proofs.serving.desks_of.Goals as goal

pub loop-seat-preserved : goal.loop-seat-preserved
loop-seat-preserved g c =
    let inv = c.loop-seat.invariant in
    record {
      count = omega (arith, ap length c.in_ok-push.ensures.items, length_push c.loop-seat.desks.items c.new.result, inv.count);
      seats = subst (λ (desks : List DeskSeen). AreSeats c.args.count desks) (sym c.in_ok-push.ensures.items)
          (one_seat_more 0 c.args.count c.loop-seat.desks.items c.new.result (omega (arith, c.new.ensures.seat, inv.count)) c.new.ensures.seats inv.seats);
      left = one_taken c.pop.result (vec_len c.args.passes) c.loop-seat.seat (vec_len c.loop-seat.passes) (vec_len c.pop.new.self) inv.left c.pop.ensures.cases;
      passes = subst (λ (desks : List DeskSeen). HavePasses (vec_len c.args.passes) desks) (sym c.in_ok-push.ensures.items)
          (one_pass_more (vec_len c.args.passes) c.loop-seat.desks.items c.new.result
          (λ less. subst (λ (pass : Option PassSeen). IsSome pass) (sym c.new.ensures.pass) (c.pop.ensures.variant.1 (omega (arith, inv.left, inv.count, less)))) inv.passes);
    }
