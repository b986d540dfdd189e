use Rattle.std.proofs.Common.{rules}
use Rattle.text_commands.proofs.Listed.{next_unhidden}
use Rattle.text_commands.proofs.hiding.page_text.Goals as goal

pub loop-one-preserved : goal.loop-one-preserved
loop-one-preserved c =
    next_unhidden c.args.reported.now c.loop-one.one-index _ _ _ (search rules) (search rules) c.loop-one.invariant c.in_ok-write_unhidden.ensures.appended
