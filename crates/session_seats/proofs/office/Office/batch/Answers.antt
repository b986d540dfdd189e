use Rattle.std.proofs.Common.{string_bytes}
use Rattle.ruleset_store.specs.Seen.{updates_seen}
use Rattle.session_rounds.proofs.Written.{entry_said}
use Rattle.update_spec.specs.Entries.{batch as together}
use Rattle.session_seats.proofs.Replies.{on_ok, batch_not_made}
use Rattle.session_seats.proofs.office.Office.batch.Goals as goal

pub returns-in_ok-swap-in-Ok-clause-said : goal.returns-in_ok-swap-in-Ok-clause-said
returns-in_ok-swap-in-Ok-clause-said g c =
    rw (← c.self.view_is) (entry_said c.accept.result g.P.Pair.opening c.args.line (together (updates_seen c.args.updates.now)) c.self.inside.writer.list c.prepare_batch.new.self.list c.prepare_batch.new.self.staged c.swap.new.self.list
    (string_bytes c.args.into.now) (string_bytes c.accept.new.into) (rw c.as_slice.ensures at c.in-Ok.ensures.judged)
    c.in-Ok.ensures.list (rw c.as_slice.ensures at c.in-Ok.ensures.staged) (on_ok c.accept.result _ c.in_ok-swap-in-Ok.ensures.published) c.accept.ensures)

pub returns-in-Err-clause-said : goal.returns-in-Err-clause-said
returns-in-Err-clause-said g c =
    rw (← c.self.view_is) (batch_not_made c.refuse_batch.result g.P.Pair.opening c.args.line c.in-Err.refusal.place (updates_seen c.args.updates.now) c.in-Err.refusal.cause c.self.inside.writer.list c.prepare_batch.new.self.list
    (string_bytes c.args.into.now) (string_bytes c.refuse_batch.new.into) (rw c.as_slice.ensures at c.in-Err.ensures.refused) c.in-Err.ensures.list c.refuse_batch.ensures)
