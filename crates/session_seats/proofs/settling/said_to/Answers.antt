use Rattle.session_seats.specs.Reading.{seen_line}
use Rattle.session_seats.proofs.Seats.{may_say}
use Rattle.session_seats.proofs.settling.said_to.Goals as goal

pub returns : goal.returns
returns g c =
    may_say g.P.Pair.opening c.args._round.now.reads c.args._office.now.list c.args.desk.now c.args.place (seen_line c.args._line.now) c.answer_to.result c.requires.inside c.requires.there c.requires.trusted
    c.answer_to.ensures.ready c.answer_to.ensures.there
