use Rattle.std.proofs.Common.{take}
use Rattle.dnr_base.specs.Kind.{all_kinds, place_of}
use Rattle.dnr_base.specs.KindSet.{kinds_of}
use Rattle.rule_fields.proofs.Sets.{IsSetOf}
use Rattle.rule_fields.proofs.forms.kind_set.Given as goal

abbrev pub invariant-loop-kind : goal.invariant-loop-kind
invariant-loop-kind l = IsSetOf place_of all_kinds (kinds_of l.set) (take l.kind-index l.kinds)
