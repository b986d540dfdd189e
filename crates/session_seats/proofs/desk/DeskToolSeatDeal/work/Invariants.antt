use Rattle.std.proofs.Common.{length, ◌-◌, ◌≡◌, ◌≤◌, ◌<◌}
use Rattle.session_seats.specs.Seats.{HasAnswered}
use Rattle.session_seats.proofs.Served.{ServesShare}
use Rattle.session_seats.proofs.desk.DeskToolSeatDeal.work.Given as goal

abbrev pub invariant-loop-turn : goal.invariant-loop-turn
invariant-loop-turn g l = record {
  answers : HasAnswered g.P.Pair.opening l.round.reads l.self;
  share : ServesShare l.round.reads l.dealt l.turn l.fn.self l.self;
  same : l.seats ≡ l.fn.self.seats;
  some : 0 < l.seats;
  host : g.H.RegexHost.faults l.fn.host ≤ g.H.RegexHost.faults l.host;
}

abbrev pub decreases-loop-turn : goal.decreases-loop-turn
decreases-loop-turn g l = length l.dealt - l.turn
