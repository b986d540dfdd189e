use Rattle.std.proofs.Common.{◌≡◌, take}
use Rattle.rule_prune.specs.Known.{HasRemoved}
use Rattle.rule_prune.proofs.Faults.{fault_from}
use Rattle.rule_prune.proofs.checks.first_fault.Given as goal

abbrev pub invariant-loop-place : goal.invariant-loop-place
invariant-loop-place l = record {
  fault : fault_from l.rules l.proof 0 ≡ fault_from l.rules l.proof l.place;
  before : HasRemoved l.before (take l.place l.proof);
}
