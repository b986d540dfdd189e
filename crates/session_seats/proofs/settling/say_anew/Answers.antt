use Rattle.std.proofs.Common.{string_bytes}
use Rattle.session_seats.proofs.Settled.{anew}
use Rattle.session_seats.proofs.settling.say_anew.Goals as goal

pub returns-clause-told : goal.returns-clause-told
returns-clause-told g c =
    anew g.P.Pair.opening c.args.floor.now c.args.office.now.list c.args.line.now c.args.latest.now c.number.result (string_bytes c.args.into.now) (string_bytes c.answer_anew.new.into)
    c.args.counted.now (g.H.RegexHost.faults c.args.finder.now) c.faults.result c.requires.fresh c.requires.floor c.requires.below c.number.ensures c.requires.counted
    c.requires.asks (rw c.faults.ensures c.in_ok-answer_anew.ensures.told)
