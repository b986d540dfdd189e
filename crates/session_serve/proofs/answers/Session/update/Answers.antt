use Rattle.std.proofs.Common.{ap, string_bytes, Ok}
use Rattle.line_spec.specs.Line as spec
use Rattle.ruleset_store.specs.Seen.{update_seen, updates_seen}
use Rattle.session_spec.specs.Answers.{known_with}
use Rattle.update_spec.specs.Entries.{one, batch as together}
use Rattle.session_serve.proofs.Told.{unknown_told, accepted_told, one_passes, refusal_told}
use Rattle.session_serve.proofs.answers.Session.update.Goals as goal

pub returns-then-not-self-clause-told : goal.returns-then-not-self-clause-told
returns-then-not-self-clause-told c =
    rw (← c.self.view_is) (unknown_told c.refuse_command.result (record { suffixes = c.self.inside.generation.suffixes; workers = 0; updates = c.self.inside.updates; follows = c.self.inside.follows }) c.self.inside.generation.state c.args.number (spec.update (update_seen c.args.update.now))
    (string_bytes c.args.into.now) (string_bytes c.refuse_command.new.into) (ap (λ b. known_with b (Ok (spec.update (update_seen c.args.update.now)))) c.if-not-self.true) c.refuse_command.ensures)

pub returns-in-Ok-clause-told : goal.returns-in-Ok-clause-told
returns-in-Ok-clause-told c =
    rw (← c.self.view_is, c.accept.ensures.next) (accepted_told c.accept.result (record { suffixes = c.self.inside.generation.suffixes; workers = 0; updates = c.self.inside.updates; follows = c.self.inside.follows }) c.self.inside.generation.state c.in-Ok.next.state c.args.number (one (update_seen c.args.update.now))
    (string_bytes c.args.into.now) (string_bytes c.accept.new.into) c.if-not-self.false (one_passes c.self.inside.generation.state (update_seen c.args.update.now) c.in-Ok.ensures.judged) c.in-Ok.ensures.applied c.accept.ensures.appended)

pub returns-in-Err-clause-told : goal.returns-in-Err-clause-told
returns-in-Err-clause-told c =
    rw (← c.self.view_is) (refusal_told c.refuse_update.result (record { suffixes = c.self.inside.generation.suffixes; workers = 0; updates = c.self.inside.updates; follows = c.self.inside.follows }) c.self.inside.generation.state c.args.number (update_seen c.args.update.now) c.in-Err.refusal
    (string_bytes c.args.into.now) (string_bytes c.refuse_update.new.into) c.if-not-self.false c.in-Err.ensures.refused c.refuse_update.ensures)
