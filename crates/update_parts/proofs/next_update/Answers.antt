use Rattle.update_parts.proofs.UpdateKept.{kept_speaks}
use Rattle.update_parts.proofs.next_update.Goals as goal

pub returns-clause-read : goal.returns-clause-read
returns-clause-read c = kept_speaks c.args.depth c.args.reader.now c.next_shaped.new.reader c.next_shaped.result c.next_shaped.ensures.ok
