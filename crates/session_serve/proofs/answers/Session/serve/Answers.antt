use Rattle.std.proofs.Common.{◌%◌, length, map, string_bytes, Ok}
use Rattle.line_spec.specs.Line as spec
use Rattle.ruleset_store.specs.Seen.{update_seen, updates_seen}
use Rattle.session_spec.specs.Answers.{known_with}
use Rattle.session_laws.proofs.Rises.{none_fell_yet}
use Rattle.session_serve.specs.Round.{setting_with}
use Rattle.session_serve.proofs.Told.{blank_told, reply_told}
use Rattle.session_serve.proofs.answers.Session.serve.Goals as goal

pub returns-in-Blank-clause-told : goal.returns-in-Blank-clause-told
returns-in-Blank-clause-told g c =
    rw c.in-Blank.is (blank_told (setting_with c.args.self.now (length c.args.finders.now)) c.args.self.now.state c.args.number (c.args.asked % length c.args.finders.now)
    (string_bytes c.args.into.now) (map g.H.RegexHost.faults c.args.finders.now))

pub returns-in-Blank-clause-later : goal.returns-in-Blank-clause-later
returns-in-Blank-clause-later g c = none_fell_yet (map g.H.RegexHost.faults c.args.finders.now)

pub returns-in-Sync-clause-told : goal.returns-in-Sync-clause-told
returns-in-Sync-clause-told g c =
    rw c.in-Sync.is (reply_told c.sync.result (setting_with c.args.self.now (length c.args.finders.now)) c.args.self.now.state c.args.self.now.state c.args.number (c.args.asked % length c.args.finders.now) (length c.args.finders.now)
    (known_with c.args.self.now.updates (Ok (spec.sync))) (string_bytes c.args.into.now) (string_bytes c.sync.new.into) (map g.H.RegexHost.faults c.args.finders.now) c.sync.ensures)

pub returns-in-Sync-clause-later : goal.returns-in-Sync-clause-later
returns-in-Sync-clause-later g c = none_fell_yet (map g.H.RegexHost.faults c.args.finders.now)

pub returns-in-Update-clause-told : goal.returns-in-Update-clause-told
returns-in-Update-clause-told g c =
    rw c.in-Update.is (reply_told c.update.result (setting_with c.args.self.now (length c.args.finders.now)) c.args.self.now.state c.update.new.self.state c.args.number (c.args.asked % length c.args.finders.now) (length c.args.finders.now)
    (known_with c.args.self.now.updates (Ok (spec.update (update_seen c.in-Update.update)))) (string_bytes c.args.into.now) (string_bytes c.update.new.into) (map g.H.RegexHost.faults c.args.finders.now) c.update.ensures.told)

pub returns-in-Update-clause-later : goal.returns-in-Update-clause-later
returns-in-Update-clause-later g c = none_fell_yet (map g.H.RegexHost.faults c.args.finders.now)

pub returns-in-Batch-clause-told : goal.returns-in-Batch-clause-told
returns-in-Batch-clause-told g c =
    rw c.in-Batch.is (reply_told c.batch.result (setting_with c.args.self.now (length c.args.finders.now)) c.args.self.now.state c.batch.new.self.state c.args.number (c.args.asked % length c.args.finders.now) (length c.args.finders.now)
    (known_with c.args.self.now.updates (Ok (spec.batch (updates_seen c.in-Batch.updates)))) (string_bytes c.args.into.now) (string_bytes c.batch.new.into) (map g.H.RegexHost.faults c.args.finders.now) c.batch.ensures.told)

pub returns-in-Batch-clause-later : goal.returns-in-Batch-clause-later
returns-in-Batch-clause-later g c = none_fell_yet (map g.H.RegexHost.faults c.args.finders.now)
