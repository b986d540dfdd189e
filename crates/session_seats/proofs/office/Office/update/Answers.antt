use Rattle.std.proofs.Common.{string_bytes}
use Rattle.ruleset_store.specs.Seen.{update_seen}
use Rattle.session_rounds.proofs.Written.{entry_said}
use Rattle.session_serve.proofs.Told.{one_passes}
use Rattle.update_spec.specs.Entries.{one, replay}
use Rattle.session_seats.proofs.Replies.{on_ok, update_not_made}
use Rattle.session_seats.proofs.office.Office.update.Goals as goal

pub returns-in_ok-swap-in-Ok-clause-said : goal.returns-in_ok-swap-in-Ok-clause-said
returns-in_ok-swap-in-Ok-clause-said g c =
    rw (← c.self.view_is) (entry_said c.accept.result g.P.Pair.opening c.args.line (one (update_seen c.args.update.now)) c.self.inside.writer.list c.prepare.new.self.list c.prepare.new.self.staged c.swap.new.self.list
    (string_bytes c.args.into.now) (string_bytes c.accept.new.into) (one_passes (replay g.P.Pair.opening.state c.self.inside.writer.list) (update_seen c.args.update.now) c.in-Ok.ensures.judged)
    c.in-Ok.ensures.list c.in-Ok.ensures.staged (on_ok c.accept.result _ c.in_ok-swap-in-Ok.ensures.published) c.accept.ensures)

pub returns-in-Err-clause-said : goal.returns-in-Err-clause-said
returns-in-Err-clause-said g c =
    rw (← c.self.view_is) (update_not_made c.refuse_update.result g.P.Pair.opening c.args.line (update_seen c.args.update.now) c.in-Err.refusal c.self.inside.writer.list c.prepare.new.self.list
    (string_bytes c.args.into.now) (string_bytes c.refuse_update.new.into) c.in-Err.ensures.refused c.in-Err.ensures.list c.refuse_update.ensures)
