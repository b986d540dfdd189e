-- The examples are computed.
use Rattle.std.specs.Prelude.{refl}
use Rattle.list_spec.specs.Examples.{KindsOfLines, CutsStandAtTheLeftmostDollar, TypesAreFolded, DomainsAreToldApart, FaultsComeInOrder}

pub kinds_of_lines : KindsOfLines
kinds_of_lines = refl

pub cuts_stand_at_the_leftmost_dollar : CutsStandAtTheLeftmostDollar
cuts_stand_at_the_leftmost_dollar = refl

pub types_are_folded : TypesAreFolded
types_are_folded = refl

pub domains_are_told_apart : DomainsAreToldApart
domains_are_told_apart = refl

pub faults_come_in_order : FaultsComeInOrder
faults_come_in_order = refl
