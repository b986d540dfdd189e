use Rattle.wildcard.proofs.Bits.{lowest_small, none_last, none_others, from_lowest_last, from_lowest_others}
use Rattle.wildcard.proofs.words.here_or_later.Goals as goal

pub overflow_shl-result : goal.overflow_shl-result
overflow_shl-result c = lowest_small c.args.word c.from.result c.args.last c.from.ensures c.ranges.word.fits c.if-some-eq0.false

pub returns-then-some-eq0-clause-last : goal.returns-then-some-eq0-clause-last
returns-then-some-eq0-clause-last c = none_last c.args.word c.from.result c.args.last c.from.ensures c.if-some-eq0.true

pub returns-then-some-eq0-clause-others : goal.returns-then-some-eq0-clause-others
returns-then-some-eq0-clause-others c i small = none_others c.args.word c.from.result c.args.last i c.from.ensures c.if-some-eq0.true

pub returns-else-some-eq0-clause-last : goal.returns-else-some-eq0-clause-last
returns-else-some-eq0-clause-last c = from_lowest_last c.args.word c.from.result c.args.last c.from.ensures c.ranges.word.fits c.if-some-eq0.false

pub returns-else-some-eq0-clause-others : goal.returns-else-some-eq0-clause-others
returns-else-some-eq0-clause-others c i small = from_lowest_others c.args.word c.from.result c.args.last i small c.from.ensures c.ranges.word.fits c.if-some-eq0.false
