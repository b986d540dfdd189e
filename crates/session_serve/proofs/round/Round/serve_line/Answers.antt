use Rattle.std.proofs.Common.{◌∷◌, length, map, string_bytes}
use Rattle.session_serve.specs.Round.{setting_with}
use Rattle.session_serve.proofs.Line.{round_cut}
use Rattle.session_serve.proofs.round.Round.serve_line.Goals as goal

pub returns-in-Err-clause-stops : goal.returns-in-Err-clause-stops
returns-in-Err-clause-stops g c =
    rw (← c.self.view_is) (round_cut (setting_with c.args.session.now (length c.args.finders.now)) c.args.session.now.state c.answer.new.self.state
    (g.H.RegexHost.faults c.args.checker.now ∷ map g.H.RegexHost.faults c.args.finders.now) (g.H.RegexHost.faults c.answer.new.checker ∷ map g.H.RegexHost.faults c.answer.new.finders)
    c.args.number c.args.line.now (g.O.Sink.taken c.args.out.now) (g.O.Sink.taken c.close.new.out)
    (record { text = string_bytes c.self.inside.text; held = record { lines = c.self.inside.lines; bytes = c.self.inside.bytes; asked = c.self.inside.asked } }) (string_bytes c.answer.new.into) c.in_ok-kind.kind
    c.in_ok-kind.ensures.kind c.in_ok-kind.ensures.told c.in-Err.ensures.ends c.in-Err.ensures.part)
