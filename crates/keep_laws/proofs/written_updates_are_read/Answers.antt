use Rattle.keep_laws.proofs.Payloads.{written_is_read}
use Rattle.keep_laws.proofs.written_updates_are_read.Goals as goal

pub returns : goal.returns
returns c = λ name remove add ids are differ tabless utf8.
    written_is_read name remove add c.written_rules_are_read.ensures.tree ids are differ tabless utf8
