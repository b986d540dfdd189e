use Rattle.std.proofs.Common.{◌≡◌, filter, take}
use Rattle.dnr_base.specs.Kind.{has_kind}
use Rattle.dnr_base.specs.KindSet.{kinds_of}
use Rattle.rule_write.proofs.sets.kinds_among.Given as goal

abbrev pub invariant-loop-kind : goal.invariant-loop-kind
invariant-loop-kind l = l.list.items ≡ filter (has_kind (kinds_of l.kinds)) (take l.kind-index l.these)
