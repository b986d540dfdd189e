use Rattle.hide_rules.specs.Texts.{texts_of}
use Rattle.hide_rules.proofs.Pages.{puts_more}
use Rattle.hide_rules.proofs.selectors.selectors_of.Goals as goal

pub loop-line-preserved : goal.loop-line-preserved
loop-line-preserved c =
    puts_more c.args.exception (texts_of c.args.domains.now) c.args.lines.now c.loop-line.line-index c.line-item.result c.loop-line.set c.put_selector.new.set c.loop-line-test.true c.line-item.is c.loop-line.invariant c.in_ok-put_selector.ensures
