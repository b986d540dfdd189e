use Rattle.std.proofs.Common.{◌≡◌, length}
use Rattle.dnr_base.specs.Kind.{all_kinds}
use Rattle.dnr_base.specs.KindSet.{kinds_of}
use Rattle.rule_index.specs.Needs as spec
use Rattle.rule_index.proofs.needs.with_each_other.Given as goal

abbrev pub invariant-loop-kind : goal.invariant-loop-kind
invariant-loop-kind l =
    spec.with_bits l.bits (spec.places_of_others (kinds_of l.kinds) l.left)
    ≡ spec.with_bits l.fn.bits (spec.places_of_others (kinds_of l.fn.kinds) all_kinds)

abbrev pub decreases-loop-kind : goal.decreases-loop-kind
decreases-loop-kind l = length l.left
