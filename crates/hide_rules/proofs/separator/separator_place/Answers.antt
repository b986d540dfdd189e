use Rattle.std.proofs.Common.{arith, sym, ◌∙◌}
use Rattle.hide_rules.proofs.Separators.{passes_at}
use Rattle.hide_rules.proofs.separator.separator_place.Goals as goal

pub loop-place-preserved : goal.loop-place-preserved
loop-place-preserved c = passes_at c.args.text.now c.loop-place.place (omega arith) c.loop-place.invariant (sym c.stands_at.ensures ∙ c.if-stands_at.false)
