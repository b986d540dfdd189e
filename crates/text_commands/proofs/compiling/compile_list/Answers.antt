use Rattle.std.proofs.Common.{◌∷◌, ap, Err, rules}
use Rattle.text_commands.specs.Ends.{count, outside}
use Rattle.text_commands.proofs.Tasks.{compile_ends, compile_stops}
use Rattle.text_commands.proofs.compiling.compile_list.Goals as goal

pub returns-in-Ok-clause-allowed : goal.returns-in-Ok-clause-allowed
returns-in-Ok-clause-allowed g c others =
    compile_ends (g.F.Source.files c.args.shelf.now) (outside (count (g.F.Source.faults c.args.shelf.now) (g.F.Source.faults c.load_list.new.shelf)) (count (g.F.Source.starts c.args.shelf.now) (g.F.Source.starts c.load_list.new.shelf)) (count (g.O.Sink.faults c.args.out.now) (g.O.Sink.faults c.print_list.new.out))
    (g.H.RegexHost.faults c.args.checker.now ∷ others) (g.H.RegexHost.faults c.load_list.new.host ∷ others) (g.F.Source.left c.load_list.new.shelf))
    c.args.name.now c.in-Ok.list (g.O.Sink.taken c.args.out.now) (g.O.Sink.taken c.print_list.new.out)
    c.print_list.result c.in-Ok.ensures.list c.print_list.ensures

pub returns-in-Err-clause-allowed : goal.returns-in-Err-clause-allowed
returns-in-Err-clause-allowed g c others =
    compile_stops (g.F.Source.files c.args.shelf.now) (outside (count (g.F.Source.faults c.args.shelf.now) (g.F.Source.faults c.load_list.new.shelf)) (count (g.F.Source.starts c.args.shelf.now) (g.F.Source.starts c.load_list.new.shelf)) (count (g.O.Sink.faults c.args.out.now) (g.O.Sink.faults c.stop_with.new.out))
    (g.H.RegexHost.faults c.args.checker.now ∷ others) (g.H.RegexHost.faults c.load_list.new.host ∷ others) (g.F.Source.left c.load_list.new.shelf))
    c.args.name.now (g.O.Sink.taken c.args.out.now) (g.O.Sink.taken c.stop_with.new.out)
    c.in-Err.stop c.stop_with.result c.in-Err.ensures.stops (λ is. c.in-Err.ensures.cause.failed (ap Err is)) c.stop_with.ensures
