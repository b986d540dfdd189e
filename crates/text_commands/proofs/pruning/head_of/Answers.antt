use Rattle.std.proofs.Common.{rules}
use Rattle.text_commands.proofs.Listed.{next_removed}
use Rattle.text_commands.proofs.pruning.head_of.Goals as goal

pub loop-one-preserved : goal.loop-one-preserved
loop-one-preserved c =
    next_removed c.args.removals.now c.loop-one.one-index _ _ _ (search rules) (search rules) c.loop-one.invariant c.in_ok-write_removed.ensures.appended
