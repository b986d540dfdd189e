use Rattle.request_parts.proofs.LineKept.{kept_says}
use Rattle.request_parts.proofs.next_request_parts.Goals as goal

pub returns-clause-read : goal.returns-clause-read
returns-clause-read c = kept_says c.args.depth c.args.reader.now c.next_shaped.new.reader c.next_shaped.result c.next_shaped.ensures.ok
