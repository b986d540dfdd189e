use Rattle.std.proofs.Common.{◌∷◌, ap, Err, rules}
use Rattle.text_commands.specs.Ends.{count, outside}
use Rattle.text_commands.proofs.Tasks.{check_ends, check_stops}
use Rattle.text_commands.proofs.checking.check_rules.Goals as goal

pub returns-in-Ok-clause-allowed : goal.returns-in-Ok-clause-allowed
returns-in-Ok-clause-allowed g c others =
    check_ends (g.F.Source.files c.args.shelf.now) (outside (count (g.F.Source.faults c.args.shelf.now) (g.F.Source.faults c.load_rules.new.shelf)) (count (g.F.Source.starts c.args.shelf.now) (g.F.Source.starts c.load_rules.new.shelf)) (count (g.O.Sink.faults c.args.out.now) (g.O.Sink.faults c.count_rules.new.out))
    (g.H.RegexHost.faults c.args.checker.now ∷ others) (g.H.RegexHost.faults c.load_rules.new.host ∷ others) (g.F.Source.left c.load_rules.new.shelf))
    c.args.kind c.args.name.now c.in-Ok.rules.items (g.O.Sink.taken c.args.out.now) (g.O.Sink.taken c.count_rules.new.out)
    c.len.result c.count_rules.result c.in-Ok.ensures.rules (search rules) c.count_rules.ensures

pub returns-in-Err-clause-allowed : goal.returns-in-Err-clause-allowed
returns-in-Err-clause-allowed g c others =
    check_stops (g.F.Source.files c.args.shelf.now) (outside (count (g.F.Source.faults c.args.shelf.now) (g.F.Source.faults c.load_rules.new.shelf)) (count (g.F.Source.starts c.args.shelf.now) (g.F.Source.starts c.load_rules.new.shelf)) (count (g.O.Sink.faults c.args.out.now) (g.O.Sink.faults c.stop_with.new.out))
    (g.H.RegexHost.faults c.args.checker.now ∷ others) (g.H.RegexHost.faults c.load_rules.new.host ∷ others) (g.F.Source.left c.load_rules.new.shelf))
    c.args.kind c.args.name.now (g.O.Sink.taken c.args.out.now) (g.O.Sink.taken c.stop_with.new.out)
    c.in-Err.stop c.stop_with.result c.in-Err.ensures.stops (λ is. c.in-Err.ensures.cause.failed (ap Err is)) c.stop_with.ensures
