use Rattle.regex_host.proofs.Prefilters.{step, within}
use Rattle.regex_host.proofs.prefilter.lacks_all.Goals as goal

pub loop-finder-preserved : goal.loop-finder-preserved
loop-finder-preserved c =
    let lacking = rw (c.if-not-lacks.false, c.as_bytes.ensures.value) at c.lacks.ensures in
    step c.args.finders.now c.args.text.now c.loop-finder.finder-index c.finder-item.result c.loop-finder-test.true c.finder-item.is c.loop-finder.invariant lacking

pub returns : goal.returns
returns c = λ _. within c.args.finders.now c.args.text.now c.loop-finder.finder-index c.loop-finder-test.false c.loop-finder.invariant
