use Rattle.std.proofs.Common.{◌≤◌, length, ap, arith}
use Rattle.session_seats.specs.Seats.{DeskSeen}
use Rattle.session_seats.proofs.Desks.{none_answered}
use Rattle.session_seats.proofs.Served.{share_empty}
use Rattle.session_seats.proofs.desk.DeskToolSeatDeal.is_idle.Goals as goal

pub returns-clause-seat : goal.returns-clause-seat
returns-clause-seat g c = λ is can. record {
  answered = none_answered g.P.Pair.opening c.args.round.now.reads c.args.self.now can.0;
  served =
      share_empty c.args.round.now.reads c.args.round.now.dealt c.args.self.now
      (let few : length c.args.round.now.dealt ≤ c.args.self.now.seat = grind (arith, is, c.places.ensures, ap (λ (desk : DeskSeen). desk.seat) c.self.view_is) in few);
}

pub returns-clause-tool : goal.returns-clause-tool
returns-clause-tool g c = λ is tool. omega arith
