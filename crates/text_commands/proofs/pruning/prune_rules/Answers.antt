use Rattle.std.proofs.Common.{List, ◌∷◌, ap, sym, subst, Err}
use Rattle.rule_spec.specs.declared.rule_kind.RuleKind.TheVariants.{Static}
use Rattle.text_commands.specs.Ends.{EndsAtOnce, count, outside}
use Rattle.text_commands.specs.Texts.{HoldsTooMany, ShowsRest}
use Rattle.rule_spec.specs.Rule.{Rule}
use Rattle.prune_spec.specs.Pruned.{IdsDiffer}
use Rattle.text_commands.proofs.Ids.{ids_differ}
use Rattle.text_commands.proofs.Tasks.{prune_ends, prune_stops}
use Rattle.text_commands.proofs.pruning.prune_rules.Goals as goal

pub returns-in-Ok-clause-allowed : goal.returns-in-Ok-clause-allowed
returns-in-Ok-clause-allowed g c others =
    prune_ends (g.F.Source.files c.args.shelf.now) (outside (count (g.F.Source.faults c.args.shelf.now) (g.F.Source.faults c.load_rules.new.shelf)) (count (g.F.Source.starts c.args.shelf.now) (g.F.Source.starts c.load_rules.new.shelf)) (count (g.O.Sink.faults c.args.out.now) (g.O.Sink.faults c.print_rest.new.out))
    (g.H.RegexHost.faults c.args.checker.now ∷ others) (g.H.RegexHost.faults c.load_rules.new.host ∷ others) (g.F.Source.left c.load_rules.new.shelf))
    c.args.name.now c.in-Ok.rules.items (g.O.Sink.taken c.args.out.now) (g.O.Sink.taken c.print_rest.new.out)
    c.print_rest.result c.in-Ok.ensures.rules
    (subst (λ (rs : List Rule). EndsAtOnce (ShowsRest rs) (HoldsTooMany c.args.name.now rs) (g.O.Sink.taken c.args.out.now) (g.O.Sink.taken c.print_rest.new.out)
    (count (g.O.Sink.faults c.args.out.now) (g.O.Sink.faults c.print_rest.new.out)) c.print_rest.result) c.deref.ensures.value c.print_rest.ensures)

pub returns-in-Err-clause-allowed : goal.returns-in-Err-clause-allowed
returns-in-Err-clause-allowed g c others =
    prune_stops (g.F.Source.files c.args.shelf.now) (outside (count (g.F.Source.faults c.args.shelf.now) (g.F.Source.faults c.load_rules.new.shelf)) (count (g.F.Source.starts c.args.shelf.now) (g.F.Source.starts c.load_rules.new.shelf)) (count (g.O.Sink.faults c.args.out.now) (g.O.Sink.faults c.stop_with.new.out))
    (g.H.RegexHost.faults c.args.checker.now ∷ others) (g.H.RegexHost.faults c.load_rules.new.host ∷ others) (g.F.Source.left c.load_rules.new.shelf))
    c.args.name.now (g.O.Sink.taken c.args.out.now) (g.O.Sink.taken c.stop_with.new.out)
    c.in-Err.stop c.stop_with.result c.in-Err.ensures.stops (λ is. c.in-Err.ensures.cause.failed (ap Err is)) c.stop_with.ensures

pub print_rest-requires : goal.print_rest-requires
print_rest-requires g c = subst IdsDiffer (sym c.deref.ensures.value) (ids_differ Static c.in-Ok.ensures.read.0 c.in-Ok.rules.items c.in-Ok.ensures.read.1)
