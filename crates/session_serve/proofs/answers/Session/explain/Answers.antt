use Rattle.std.proofs.Common.{ap, sym, ◌∙◌, ◌<◌, ◌%◌, length, map, string_bytes, rules, arith}
use Rattle.std.proofs.lemmas.List.{length-map}
use Rattle.session_laws.proofs.Rises.{none_fell_yet}
use Rattle.session_spec.specs.Answers.{Explains}
use Rattle.session_serve.specs.Round.{setting_with}
use Rattle.session_serve.proofs.Told.{explain_told, unexplained_told, asked_count, one_asked, faults_set, turn_inside}
use Rattle.session_serve.proofs.answers.Session.explain.Goals as goal

pub returns-then-self-clause-told : goal.returns-then-self-clause-told
returns-then-self-clause-told g c =
    rw (← c.self.view_is) (unexplained_told c.refuse_command.result (record { suffixes = c.self.inside.generation.suffixes; workers = length c.args.finders.now; updates = c.self.inside.updates; follows = c.self.inside.follows })
    c.self.inside.generation.state c.args.number (c.args.asked % length c.args.finders.now) c.args.request.now
    (string_bytes c.args.into.now) (string_bytes c.refuse_command.new.into) (map g.H.RegexHost.faults c.args.finders.now) c.if-self.true c.refuse_command.ensures)

pub returns-then-self-clause-later : goal.returns-then-self-clause-later
returns-then-self-clause-later g c = none_fell_yet (map g.H.RegexHost.faults c.args.finders.now)

pub returns-clause-told : goal.returns-clause-told
returns-clause-told g c =
    let inside : c.args.asked % length c.args.finders.now < length c.args.finders.now = turn_inside c.args.asked (length c.args.finders.now) c.requires.some in
    rw (← c.self.view_is) (explain_told c.explain.result (record { suffixes = c.self.inside.generation.suffixes; workers = length c.args.finders.now; updates = c.self.inside.updates; follows = c.self.inside.follows })
    c.self.inside.generation.state c.args.number (c.args.asked % length c.args.finders.now) c.args.request.now
    (string_bytes c.args.into.now) (string_bytes c.explain.new.into) (map g.H.RegexHost.faults c.args.finders.now) _ (g.H.RegexHost.faults c.explain.new.finder)
    (omega (arith, inside, length-map c.args.finders.now g.H.RegexHost.faults)) (faults_set g.H.RegexHost.faults c.args.finders.now (c.args.asked % length c.args.finders.now) c.explain.new.finder)
    (asked_count c.explain.result g.H.RegexHost.faults c.args.finders.now (c.args.asked % length c.args.finders.now) c.index-finders-seat.result
    (Explains c.self.inside.generation.suffixes c.args.request.now) c.self.inside.generation.state c.args.number (string_bytes c.args.into.now) (string_bytes c.explain.new.into) (g.H.RegexHost.faults c.explain.new.finder)
    inside c.explain.ensures.told) c.if-self.false)

pub returns-clause-later : goal.returns-clause-later
returns-clause-later g c =
    one_asked g.H.RegexHost.faults c.args.finders.now (c.args.asked % length c.args.finders.now) c.index-finders-seat.result c.explain.new.finder
    (turn_inside c.args.asked (length c.args.finders.now) c.requires.some) c.explain.ensures.later
