use Rattle.std.proofs.Common.{string_bytes}
use Rattle.ruleset_store.specs.Seen.{update_seen}
use Rattle.update_spec.specs.Entries.{one}
use Rattle.session_serve.proofs.Told.{one_passes}
use Rattle.engine.proofs.Lines.{accepted_left, refused_left}
use Rattle.engine.proofs.answering.apply.Goals as goal

pub returns-in-Ok-clause-told : goal.returns-in-Ok-clause-told
returns-in-Ok-clause-told c =
    accepted_left c.accept.result c.args.generation.now.suffixes c.args.generation.now.state c.args.number (one (update_seen c.args.update.now)) (string_bytes c.args.into.now) (string_bytes c.accept.new.into)
    c.in-Ok.next (one_passes c.args.generation.now.state (update_seen c.args.update.now) c.in-Ok.ensures.judged) c.in-Ok.ensures.applied c.accept.ensures.next c.accept.ensures.appended

pub returns-in-Ok-refuse-clause-told : goal.returns-in-Ok-refuse-clause-told
returns-in-Ok-refuse-clause-told c =
    refused_left c.args.generation.now.suffixes c.args.generation.now.state c.args.number (update_seen c.args.update.now) c.in-Err.refusal (string_bytes c.args.into.now) (string_bytes c.refuse.new.into)
    c.in-Err.ensures.refused c.in-Ok-refuse.ensures
