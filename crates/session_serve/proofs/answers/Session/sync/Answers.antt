use Rattle.std.proofs.Common.{ap, string_bytes, Ok}
use Rattle.line_spec.specs.Line as spec
use Rattle.session_spec.specs.Answers.{known_with}
use Rattle.session_serve.proofs.Told.{sync_told, unknown_told}
use Rattle.session_serve.proofs.answers.Session.sync.Goals as goal

pub returns-then-self : goal.returns-then-self
returns-then-self c =
    rw (← c.self.view_is) (sync_told c.say.result (record { suffixes = c.self.inside.generation.suffixes; workers = 0; updates = c.self.inside.updates; follows = c.self.inside.follows }) c.self.inside.generation.state c.args.number c.number-count.result
    (string_bytes c.args.into.now) (string_bytes c.say.new.into) c.if-self.true c.number-count.ensures c.say.ensures)

pub returns-else-self : goal.returns-else-self
returns-else-self c =
    rw (← c.self.view_is) (unknown_told c.refuse_command.result (record { suffixes = c.self.inside.generation.suffixes; workers = 0; updates = c.self.inside.updates; follows = c.self.inside.follows }) c.self.inside.generation.state c.args.number spec.sync
    (string_bytes c.args.into.now) (string_bytes c.refuse_command.new.into) (ap (λ b. known_with b (Ok spec.sync)) c.if-self.false) c.refuse_command.ensures)
