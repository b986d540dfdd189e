use Rattle.std.proofs.Common.{take}
use Rattle.rule_prune.specs.Known.{HasRemoved}
use Rattle.rule_prune.proofs.checks.removed_by.Given as goal

abbrev pub invariant-loop-one : goal.invariant-loop-one
invariant-loop-one l = HasRemoved l.ids (take l.one-index l.entries)
