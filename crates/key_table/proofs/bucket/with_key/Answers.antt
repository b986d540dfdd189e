use Rattle.std.proofs.Common.{arith}
use Rattle.key_table.proofs.Between.{places_searched}
use Rattle.key_table.proofs.bucket.with_key.Goals as goal

pub returns-clause-places : goal.returns-clause-places
returns-clause-places c shown =
    rw c.part.ensures (places_searched c.args.texts.now c.args.asked.now c.args.tag shown c.args.entries.now c.start_of-start.result c.max-end.result
    c.requires.all c.requires.tag (omega arith) c.start_of-start.ensures.within c.start_of-start.ensures.below
    (λ k entry from inside. c.end_of.ensures.above k entry (omega arith) inside))
