use Rattle.std.proofs.Common.{◌∷◌, ◌∙◌, map, ap, Err, refl}
use Rattle.session_laws.proofs.Rises.{none_fell_yet}
use Rattle.text_commands.specs.Ends.{count, outside}
use Rattle.dnr_top.proofs.Fresh.{nothing_counted}
use Rattle.dnr_top.proofs.Hosts.{rose_since}
use Rattle.dnr_top.proofs.Tasks.{not_installed, not_started, script_served}
use Rattle.dnr_top.proofs.session.serve.Goals as goal

pub returns-in-Err-clause-allowed : goal.returns-in-Err-clause-allowed
returns-in-Err-clause-allowed g c =
    not_installed (g.F.Source.files c.args.shelf.now) c.args.loaded c.args.updates c.args.follows c.args.workers c.args.script.now (g.O.Sink.taken c.args.out.now) (g.O.Sink.taken c.stop_with.new.out)
    (outside (count (g.F.Source.faults c.args.shelf.now) (g.F.Source.faults c.args.shelf.now)) (count (g.F.Source.starts c.args.shelf.now) (g.F.Source.starts c.args.shelf.now)) (count (g.O.Sink.faults c.args.out.now) (g.O.Sink.faults c.stop_with.new.out))
    (g.H.RegexHost.faults c.args.checker.now ∷ map g.H.RegexHost.faults c.args.finders.now) (g.H.RegexHost.faults c.args.checker.now ∷ map g.H.RegexHost.faults c.args.finders.now) (g.F.Source.left c.args.shelf.now))
    c.in-Err.stop c.stop_with.result refl c.in-Err.ensures.stops (λ is. c.in-Err.ensures.no_fault (ap Err is)) c.stop_with.ensures

pub returns-in-Err-clause-later : goal.returns-in-Err-clause-later
returns-in-Err-clause-later g c = none_fell_yet (g.H.RegexHost.faults c.args.checker.now ∷ map g.H.RegexHost.faults c.args.finders.now)

pub serve_started-requires-clause-fresh : goal.serve_started-requires-clause-fresh
serve_started-requires-clause-fresh g c κs within = nothing_counted c.args.loaded c.in-Ok.generation c.in-Ok.ensures.opens

pub returns-in-Ok-start-clause-allowed : goal.returns-in-Ok-start-clause-allowed
returns-in-Ok-start-clause-allowed g c =
    script_served (g.F.Source.files c.args.shelf.now) c.args.loaded c.in-Ok.generation c.args.updates c.args.follows c.args.workers c.args.script.now (g.O.Sink.taken c.args.out.now) (g.O.Sink.taken c.serve_started.new.out)
    (g.F.Source.left c.start.new.self) (g.F.Source.left c.serve_started.new.source)
    (outside (count (g.F.Source.faults c.args.shelf.now) (g.F.Source.faults c.serve_started.new.source)) (count (g.F.Source.starts c.args.shelf.now) (g.F.Source.starts c.serve_started.new.source)) (count (g.O.Sink.faults c.args.out.now) (g.O.Sink.faults c.serve_started.new.out))
    (g.H.RegexHost.faults c.args.checker.now ∷ map g.H.RegexHost.faults c.args.finders.now) (g.H.RegexHost.faults c.serve_started.new.checker ∷ map g.H.RegexHost.faults c.serve_started.new.finders) (g.F.Source.left c.serve_started.new.source))
    c.serve_started.result c.ended.result c.in-Ok.ensures.opens c.in-Ok-start.ensures.started c.serve_started.ensures.told refl
    (c.serve_started.ensures.starts ∙ c.in-Ok-start.ensures.counted)
    (λ is. rose_since (g.F.Source.faults c.args.shelf.now) (g.F.Source.faults c.start.new.self) (g.F.Source.faults c.serve_started.new.source) c.in-Ok-start.ensures.cause.later (c.serve_started.ensures.read_fault.failed is))
    (λ is. c.serve_started.ensures.write_fault.failed is) c.serve_started.ensures.served c.ended.ensures.status

pub returns-in-Err-start-clause-allowed : goal.returns-in-Err-start-clause-allowed
returns-in-Err-start-clause-allowed g c =
    not_started (g.F.Source.files c.args.shelf.now) c.args.loaded c.args.updates c.args.follows c.args.workers c.args.script.now (g.O.Sink.taken c.args.out.now)
    (outside (count (g.F.Source.faults c.args.shelf.now) (g.F.Source.faults c.start.new.self)) (count (g.F.Source.starts c.args.shelf.now) (g.F.Source.starts c.start.new.self)) (count (g.O.Sink.faults c.args.out.now) (g.O.Sink.faults c.args.out.now))
    (g.H.RegexHost.faults c.args.checker.now ∷ map g.H.RegexHost.faults c.args.finders.now) (g.H.RegexHost.faults c.args.checker.now ∷ map g.H.RegexHost.faults c.args.finders.now) (g.F.Source.left c.start.new.self))
    c.in-Err-start.ensures.uncounted c.in-Err-start.ensures.cause.failed

pub returns-in-Err-start-clause-later : goal.returns-in-Err-start-clause-later
returns-in-Err-start-clause-later g c = none_fell_yet (g.H.RegexHost.faults c.args.checker.now ∷ map g.H.RegexHost.faults c.args.finders.now)
