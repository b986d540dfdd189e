use Rattle.std.proofs.Common.{take, All}
use Rattle.session_seats.proofs.Dealt.{IsGoing}
use Rattle.session_seats.proofs.rounds.have_stopped.Given as goal

abbrev pub invariant-loop-desk : goal.invariant-loop-desk
invariant-loop-desk g l = All IsGoing (take l.desk-index l.desks)
