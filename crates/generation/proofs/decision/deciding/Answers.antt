use Rattle.std.proofs.Common.{◌∙◌, ap, arith}
use Rattle.generation.specs.Choice.{deciding_in, with_decision}
use Rattle.generation.proofs.Rest.{deciding_end, deciding_step}
use Rattle.generation.proofs.decision.deciding.Goals as goal

pub loop-kept-preserved : goal.loop-kept-preserved
loop-kept-preserved c =
    deciding_step c.args.kepts.now c.loop-kept.kept-index c.kept-item.result (deciding_in c.args.kepts.now) c.loop-kept.best c.better-best.result (omega arith) c.kept-item.is
    c.loop-kept.invariant (c.better-best.ensures ∙ ap (with_decision c.loop-kept.best) c.of.ensures)

pub returns : goal.returns
returns c = deciding_end c.args.kepts.now c.loop-kept.kept-index (deciding_in c.args.kepts.now) c.loop-kept.best c.loop-kept-test.false c.loop-kept.invariant
