-- Why an update is not read: the definition says so, or memory ran out, or a pattern host failed.
use Rattle.std.specs.Prelude.{◌≡◌, ℕ, List, Result, Err}
use Rattle.rule_spec.specs.declared.rule_refusal.RuleRefusal.{RuleRefusal}
use Rattle.rule_spec.specs.declared.rule_refusal.RuleRefusal.TheVariants as rule
use Rattle.rule_spec.specs.declared.placed_refusal.PlacedRefusal.{PlacedRefusal}
use Rattle.rule_read.specs.Calm.{IsCalmBy}
use Rattle.line_spec.specs.declared.update_fault.UpdateFault.{UpdateFault}
use Rattle.line_spec.specs.declared.update_fault.UpdateFault.TheVariants.{BadField, RuleRefused, NoMemory}
use Rattle.line_spec.specs.Updates.{of_set}

abbrev pub MayStopBy : {X : Type 0} → Result X UpdateFault → Type 0 → PlacedRefusal → RuleRefusal → Type 0
MayStopBy expected stops refusal rule.HostFault = stops
MayStopBy expected stops refusal rule.NoMemory = ⊥
MayStopBy expected stops refusal cause = expected ≡ Err (RuleRefused refusal)

-- `stops` says of a rule when a pattern host may fail at it
abbrev pub MayRefuse : {X : Type 0} → Result X UpdateFault → (PlacedRefusal → Type 0) → UpdateFault → Type 0
MayRefuse expected stops (BadField field) = expected ≡ Err (BadField field)
MayRefuse expected stops (RuleRefused refusal) = MayStopBy expected (stops refusal) refusal refusal.cause
MayRefuse expected stops NoMemory = Unit {0}

-- where no rule is read
abbrev pub IsFaultOf : {X : Type 0} → Result X UpdateFault → UpdateFault → Type 0
IsFaultOf expected (BadField field) = expected ≡ Err (BadField field)
IsFaultOf expected (RuleRefused refusal) = ⊥
IsFaultOf expected NoMemory = Unit {0}

-- the count of the host's faults stays unless the host is the cause
abbrev pub IsQuiet : ℕ → ℕ → UpdateFault → Type 0
IsQuiet before now (BadField field) = now ≡ before
IsQuiet before now (RuleRefused refusal) = IsCalmBy before now refusal.cause
IsQuiet before now NoMemory = now ≡ before

-- a refusal for want of memory is want of memory
abbrev pub fault_by : PlacedRefusal → RuleRefusal → UpdateFault
fault_by refusal rule.NoMemory = NoMemory
fault_by refusal cause = RuleRefused refusal

abbrev pub fault_of : PlacedRefusal → UpdateFault
fault_of refusal = fault_by refusal refusal.cause

-- the fault of a rule names its ruleset
abbrev pub fault_in_set : List ℕ → UpdateFault → UpdateFault
fault_in_set id (BadField field) = BadField field
fault_in_set id (RuleRefused refusal) = RuleRefused (of_set id refusal)
fault_in_set id NoMemory = NoMemory
