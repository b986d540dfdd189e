use Rattle.std.proofs.Common.{ap, ◌∙◌, string_bytes}
use Rattle.generation.specs.Basis.{Basis}
use Rattle.session_rounds.proofs.Written.{count_said}
use Rattle.session_seats.proofs.office.Office.sync.Goals as goal

pub returns : goal.returns
returns g c =
    rw (← c.self.view_is) (count_said c.write_reply.result g.P.Pair.opening c.args.line c.number-count.result c.self.inside.writer.list (string_bytes c.args.into.now) (string_bytes c.write_reply.new.into)
    (c.number-count.ensures ∙ ap (λ (b : Basis). b.state.count) c.generation.ensures) c.write_reply.ensures.appended)
