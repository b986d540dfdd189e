use Rattle.std.proofs.Common.{string_bytes}
use Rattle.engine.proofs.Lines.{sync_left}
use Rattle.engine.proofs.answering.sync.Goals as goal

pub returns-in-Ok-clause-told : goal.returns-in-Ok-clause-told
returns-in-Ok-clause-told c =
    sync_left c.args.generation.now.suffixes c.args.generation.now.state c.args.number c.number-count.result (string_bytes c.args.into.now) (string_bytes c.write_reply.new.into)
    c.number-count.ensures c.in-Ok.ensures.appended
