use Rattle.std.proofs.Common.{ap, sym, ◌∙◌, ◌<◌, ◌%◌, length, map, string_bytes, rules, arith}
use Rattle.std.proofs.lemmas.List.{length-map}
use Rattle.session_spec.specs.Answers.{AnswersBy}
use Rattle.session_serve.specs.Round.{setting_with}
use Rattle.session_serve.proofs.Told.{request_told, asked_count, one_asked, faults_set, turn_inside}
use Rattle.session_serve.proofs.answers.Session.decide.Goals as goal

pub returns-clause-told : goal.returns-clause-told
returns-clause-told g c =
    let inside : c.args.asked % length c.args.finders.now < length c.args.finders.now = turn_inside c.args.asked (length c.args.finders.now) c.requires.some in
    rw (← c.self.view_is) (request_told c.answer_request.result (record { suffixes = c.self.inside.generation.suffixes; workers = length c.args.finders.now; updates = c.self.inside.updates; follows = c.self.inside.follows })
    c.self.inside.generation.state c.args.number (c.args.asked % length c.args.finders.now) c.args.request.now
    (string_bytes c.args.into.now) (string_bytes c.answer_request.new.into) (map g.H.RegexHost.faults c.args.finders.now) _ (g.H.RegexHost.faults c.answer_request.new.finder)
    (omega (arith, inside, length-map c.args.finders.now g.H.RegexHost.faults)) (faults_set g.H.RegexHost.faults c.args.finders.now (c.args.asked % length c.args.finders.now) c.answer_request.new.finder)
    (asked_count c.answer_request.result g.H.RegexHost.faults c.args.finders.now (c.args.asked % length c.args.finders.now) c.index-finders-seat.result
    (AnswersBy c.self.inside.follows c.self.inside.generation.suffixes c.args.request.now) c.self.inside.generation.state c.args.number (string_bytes c.args.into.now) (string_bytes c.answer_request.new.into) (g.H.RegexHost.faults c.answer_request.new.finder)
    inside c.answer_request.ensures.told))

pub returns-clause-later : goal.returns-clause-later
returns-clause-later g c =
    one_asked g.H.RegexHost.faults c.args.finders.now (c.args.asked % length c.args.finders.now) c.index-finders-seat.result c.answer_request.new.finder
    (turn_inside c.args.asked (length c.args.finders.now) c.requires.some) c.answer_request.ensures.later
