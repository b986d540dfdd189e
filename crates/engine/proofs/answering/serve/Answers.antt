use Rattle.std.proofs.Common.{string_bytes, Ok}
use Rattle.line_spec.specs.Line as spec
use Rattle.ruleset_store.specs.Seen.{update_seen, updates_seen}
use Rattle.engine.proofs.Lines.{request_left, explain_left, blank_left, reply_left}
use Rattle.engine.proofs.answering.serve.Goals as goal

pub returns-in-Ok-clause-told : goal.returns-in-Ok-clause-told
returns-in-Ok-clause-told g c =
    rw c.in-Request.is (request_left c.args.generation.now.suffixes c.args.generation.now.state c.args.number c.in-Request.request (string_bytes c.args.into.now) (string_bytes c.decide.new.into)
    (g.H.RegexHost.faults c.args.finder.now) (g.H.RegexHost.faults c.decide.new.finder) c.in-Ok.ensures.told)

pub returns-in-Ok-explain-clause-told : goal.returns-in-Ok-explain-clause-told
returns-in-Ok-explain-clause-told g c =
    rw c.in-Explain.is (explain_left c.args.generation.now.suffixes c.args.generation.now.state c.args.number c.in-Explain.request (string_bytes c.args.into.now) (string_bytes c.explain.new.into)
    (g.H.RegexHost.faults c.args.finder.now) (g.H.RegexHost.faults c.explain.new.finder) c.in-Ok-explain.ensures.told)

pub returns-in-Blank-clause-told : goal.returns-in-Blank-clause-told
returns-in-Blank-clause-told g c =
    rw c.in-Blank.is (blank_left c.args.generation.now.suffixes c.args.generation.now.state c.args.number (string_bytes c.args.into.now) (g.H.RegexHost.faults c.args.finder.now))

pub returns-in-Sync-clause-told : goal.returns-in-Sync-clause-told
returns-in-Sync-clause-told g c =
    rw c.in-Sync.is (reply_left c.sync.result c.args.generation.now.suffixes c.args.generation.now.state c.args.number (Ok spec.sync) (string_bytes c.args.into.now) (string_bytes c.sync.new.into)
    (g.H.RegexHost.faults c.args.finder.now) c.sync.ensures.told)

pub returns-in-Update-clause-told : goal.returns-in-Update-clause-told
returns-in-Update-clause-told g c =
    rw c.in-Update.is (reply_left c.apply.result c.args.generation.now.suffixes c.args.generation.now.state c.args.number (Ok (spec.update (update_seen c.in-Update.update))) (string_bytes c.args.into.now) (string_bytes c.apply.new.into)
    (g.H.RegexHost.faults c.args.finder.now) c.apply.ensures.told)

pub returns-in-Batch-clause-told : goal.returns-in-Batch-clause-told
returns-in-Batch-clause-told g c =
    rw c.in-Batch.is (reply_left c.apply_batch.result c.args.generation.now.suffixes c.args.generation.now.state c.args.number (Ok (spec.batch (updates_seen c.in-Batch.updates))) (string_bytes c.args.into.now) (string_bytes c.apply_batch.new.into)
    (g.H.RegexHost.faults c.args.finder.now) c.apply_batch.ensures.told)
