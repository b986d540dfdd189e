use Rattle.std.proofs.Common.{true, false, refl}
use Rattle.session_serve.specs.Position.{Position}
use Rattle.dnr_top.proofs.Hosts.{served_with, fell_with}
use Rattle.dnr_top.proofs.session.serve_beside.Goals as goal

pub returns-clause-served : goal.returns-clause-served
returns-clause-served g c =
    let position : Position = record { suffixes = c.args.generation.suffixes; state = c.args.generation.state; updates = true; follows = false } in
    served_with g.H.RegexHost.faults (g.S.Source.left c.args.source.now) (g.O.Sink.taken c.args.out.now) (g.O.Sink.taken c.serve_with_seats.new.out) (g.S.Source.left c.serve_with_seats.new.source)
    (g.H.RegexHost.faults c.args.checker.now) (g.H.RegexHost.faults c.serve_with_seats.new.checker) c.args.finders.now c.split_at_mut-seats.result.0.now c.split_at_mut-seats.result.1.now c.serve_with_seats.new.finders
    position position c.args.workers c.serve_with_seats.result
    c.split_at_mut-seats.ensures.value c.split_at_mut-seats.ensures.front_len refl c.serve_with_seats.ensures.later c.serve_with_seats.ensures.served

pub returns-clause-later : goal.returns-clause-later
returns-clause-later g c =
    fell_with g.H.RegexHost.faults (g.H.RegexHost.faults c.args.checker.now) (g.H.RegexHost.faults c.serve_with_seats.new.checker) c.args.finders.now c.split_at_mut-seats.result.0.now c.split_at_mut-seats.result.1.now c.serve_with_seats.new.finders
    c.split_at_mut-seats.ensures.value c.serve_with_seats.ensures.later
