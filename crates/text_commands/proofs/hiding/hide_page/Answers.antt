use Rattle.std.proofs.Common.{ap, Err}
use Rattle.text_commands.specs.Ends.{count, outside}
use Rattle.text_commands.proofs.Tasks.{hide_ends, hide_stops}
use Rattle.text_commands.proofs.hiding.hide_page.Goals as goal

pub returns-in-Ok-clause-allowed : goal.returns-in-Ok-clause-allowed
returns-in-Ok-clause-allowed g c hosts =
    hide_ends (g.F.Source.files c.args.shelf.now) (outside (count (g.F.Source.faults c.args.shelf.now) (g.F.Source.faults c.load_file.new.shelf)) (count (g.F.Source.starts c.args.shelf.now) (g.F.Source.starts c.load_file.new.shelf)) (count (g.O.Sink.faults c.args.out.now) (g.O.Sink.faults c.hide_by.new.out))
    hosts hosts (g.F.Source.left c.load_file.new.shelf))
    c.args.name.now c.args.host.now c.in-Ok.bytes.items (g.O.Sink.taken c.args.out.now) (g.O.Sink.taken c.hide_by.new.out)
    c.hide_by.result c.in-Ok.ensures.held (rw c.deref.ensures.value at c.hide_by.ensures)

pub returns-in-Err-clause-allowed : goal.returns-in-Err-clause-allowed
returns-in-Err-clause-allowed g c hosts =
    hide_stops (g.F.Source.files c.args.shelf.now) (outside (count (g.F.Source.faults c.args.shelf.now) (g.F.Source.faults c.load_file.new.shelf)) (count (g.F.Source.starts c.args.shelf.now) (g.F.Source.starts c.load_file.new.shelf)) (count (g.O.Sink.faults c.args.out.now) (g.O.Sink.faults c.stop_with.new.out))
    hosts hosts (g.F.Source.left c.load_file.new.shelf))
    c.args.name.now c.args.host.now (g.O.Sink.taken c.args.out.now) (g.O.Sink.taken c.stop_with.new.out)
    c.in-Err.stop c.stop_with.result c.in-Err.ensures.stops (λ is. c.in-Err.ensures.cause.failed (ap Err is)) c.stop_with.ensures
