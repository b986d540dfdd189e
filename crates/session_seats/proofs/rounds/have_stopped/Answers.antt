use Rattle.std.proofs.Common.{◌∙◌, sym}
use Rattle.session_seats.proofs.Dealt.{IsGoing, all_on, all_whole}
use Rattle.session_seats.proofs.rounds.have_stopped.Goals as goal

pub loop-desk-preserved : goal.loop-desk-preserved
loop-desk-preserved g c =
    all_on IsGoing c.args.desks.now c.loop-desk.desk-index c.desk-item.result c.loop-desk-test.true c.desk-item.is c.loop-desk.invariant (sym c.stopped.ensures ∙ c.if-stopped.false)

pub returns : goal.returns
returns g c = λ none. all_whole IsGoing c.args.desks.now c.loop-desk.desk-index c.loop-desk-test.false c.loop-desk.invariant
