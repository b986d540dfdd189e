-- Why a reader of lines gives no command: the definition says so, or memory ran out, or a pattern host failed.
use Rattle.std.specs.Prelude.{◌≡◌, ℕ, List, Result, Ok, Err}
use Rattle.rule_spec.specs.declared.rule_refusal.RuleRefusal.{RuleRefusal}
use Rattle.rule_spec.specs.declared.rule_refusal.RuleRefusal.TheVariants as rule
use Rattle.line_spec.specs.declared.line_fault.LineFault.{LineFault}
use Rattle.line_spec.specs.declared.line_fault.LineFault.TheVariants.{RuleRefused, InBatch, NoMemory}
use Rattle.line_spec.specs.Line.{command_of}
use Rattle.line_spec.specs.Stops.{StopsInLine}

-- where no rule is read
abbrev pub IsFaultOf : {X : Type 0} → Result X LineFault → LineFault → Type 0
IsFaultOf expected (RuleRefused refusal) = ⊥
IsFaultOf expected (InBatch place refusal) = ⊥
IsFaultOf expected NoMemory = Unit {0}
IsFaultOf expected fault = expected ≡ Err fault

-- where the rule that is named is refused for this cause, of which want of memory is none
abbrev pub MayStopBy : {X : Type 0} → Result X LineFault → Type 0 → LineFault → RuleRefusal → Type 0
MayStopBy expected stops fault rule.HostFault = stops
MayStopBy expected stops fault rule.NoMemory = ⊥
MayStopBy expected stops fault cause = expected ≡ Err fault

-- `stops` says of a fault when a pattern host may be its cause
abbrev pub MayRefuse : {X : Type 0} → Result X LineFault → (LineFault → Type 0) → LineFault → Type 0
MayRefuse expected stops (RuleRefused refusal) = MayStopBy expected (stops (RuleRefused refusal)) (RuleRefused refusal) refusal.cause
MayRefuse expected stops (InBatch place refusal) = MayStopBy expected (stops (InBatch place refusal)) (InBatch place refusal) refusal.cause
MayRefuse expected stops NoMemory = Unit {0}
MayRefuse expected stops fault = expected ≡ Err fault

-- the line of this number is refused so; `rose` says that the count of the pattern host rose
abbrev pub IsFaultOfLine : ℕ → List ℕ → Type 0 → LineFault → Type 0
IsFaultOfLine number line rose fault = MayRefuse (command_of number line) (λ other. rose × StopsInLine line other) fault

-- ---- counts of a host's faults

-- the count of a pattern host stays unless the host is the cause
abbrev pub IsCalmBy : ℕ → ℕ → RuleRefusal → Type 0
IsCalmBy before now rule.HostFault = Unit {0}
IsCalmBy before now cause = now ≡ before

abbrev pub IsCalm : {X : Type 0} → ℕ → ℕ → Result X LineFault → Type 0
IsCalm before now (Ok x) = now ≡ before
IsCalm before now (Err (RuleRefused refusal)) = IsCalmBy before now refusal.cause
IsCalm before now (Err (InBatch place refusal)) = IsCalmBy before now refusal.cause
IsCalm before now (Err fault) = now ≡ before
