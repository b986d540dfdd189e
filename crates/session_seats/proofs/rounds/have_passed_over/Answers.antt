use Rattle.session_seats.proofs.Dealt.{HasPassedNone, all_on, all_whole}
use Rattle.session_seats.proofs.rounds.have_passed_over.Goals as goal

pub loop-desk-preserved : goal.loop-desk-preserved
loop-desk-preserved g c =
    all_on HasPassedNone c.args.desks.now c.loop-desk.desk-index c.desk-item.result c.loop-desk-test.true c.desk-item.is c.loop-desk.invariant (c.has_passed_over.ensures c.if-has_passed_over.false)

pub returns : goal.returns
returns g c = λ none. all_whole HasPassedNone c.args.desks.now c.loop-desk.desk-index c.loop-desk-test.false c.loop-desk.invariant
