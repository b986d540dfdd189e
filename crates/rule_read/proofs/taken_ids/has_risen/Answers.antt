use Rattle.std.proofs.Common.{arith}
use Rattle.rule_read.proofs.Ids.{risen_is}
use Rattle.rule_read.proofs.taken_ids.has_risen.Goals as goal

pub returns-then-id-greatest : goal.returns-then-id-greatest
returns-then-id-greatest c = risen_is c.args.rising.now c.args.greatest c.args.id c.requires.up (omega (arith, c.if-id-greatest.true))
