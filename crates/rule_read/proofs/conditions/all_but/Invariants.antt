use Rattle.std.proofs.Common.{take}
use Rattle.dnr_base.specs.KindSet.{kinds_of}
use Rattle.rule_read.proofs.TypeSets.{IsAllBut}
use Rattle.rule_read.proofs.conditions.all_but.Given as goal

abbrev pub invariant-loop-kind : goal.invariant-loop-kind
invariant-loop-kind l = IsAllBut (kinds_of l.kinds) (take l.kind-index l.kind-items) (kinds_of l.excluded)
