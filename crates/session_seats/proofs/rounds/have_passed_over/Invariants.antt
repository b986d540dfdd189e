use Rattle.std.proofs.Common.{take, All}
use Rattle.session_seats.proofs.Dealt.{HasPassedNone}
use Rattle.session_seats.proofs.rounds.have_passed_over.Given as goal

abbrev pub invariant-loop-desk : goal.invariant-loop-desk
invariant-loop-desk g l = All HasPassedNone (take l.desk-index l.desks)
