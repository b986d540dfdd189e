use Rattle.wildcard.proofs.Bits.{shifted_last, shifted_others}
use Rattle.wildcard.proofs.words.behind.Goals as goal

pub returns-clause-last : goal.returns-clause-last
returns-clause-last c = shifted_last c.args.word c.from.result c.args.last c.from.ensures

pub returns-clause-others : goal.returns-clause-others
returns-clause-others c i small = shifted_others c.args.word c.from.result c.args.last i c.from.ensures small
