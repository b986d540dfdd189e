use Rattle.std.proofs.Common.{string_bytes}
use Rattle.ruleset_store.specs.Seen.{updates_seen}
use Rattle.update_spec.specs.Entries.{batch as together}
use Rattle.engine.proofs.Lines.{accepted_left, batch_refused_left}
use Rattle.engine.proofs.answering.apply_batch.Goals as goal

pub returns-in-Ok-clause-told : goal.returns-in-Ok-clause-told
returns-in-Ok-clause-told c =
    accepted_left c.accept.result c.args.generation.now.suffixes c.args.generation.now.state c.args.number (together (updates_seen c.args.updates.now)) (string_bytes c.args.into.now) (string_bytes c.accept.new.into)
    c.in-Ok.next (rw c.as_slice.ensures at c.in-Ok.ensures.judged) (rw c.as_slice.ensures at c.in-Ok.ensures.applied) c.accept.ensures.next c.accept.ensures.appended

pub returns-in-Ok-refuse_batch-clause-told : goal.returns-in-Ok-refuse_batch-clause-told
returns-in-Ok-refuse_batch-clause-told c =
    batch_refused_left c.args.generation.now.suffixes c.args.generation.now.state c.args.number c.in-Err.refusal.place (updates_seen c.args.updates.now) c.in-Err.refusal.cause (string_bytes c.args.into.now) (string_bytes c.refuse_batch.new.into)
    (rw c.as_slice.ensures at c.in-Err.ensures.refused) c.in-Ok-refuse_batch.ensures
