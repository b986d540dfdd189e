-- A fault may be refused, and no host failed for it.
use Rattle.std.proofs.Common.{ℕ, Result, Err, refl}
use Rattle.line_spec.specs.declared.line_fault.LineFault.{LineFault}
use Rattle.line_spec.specs.declared.line_fault.LineFault.TheVariants.{RuleRefused, InBatch, NoMemory}
use Rattle.line_spec.specs.IsFault.{IsFaultOf, MayRefuse, IsCalm}

pub may_refuse : {X : Type 0} (expected : Result X LineFault) (stops : LineFault → Type 0) (fault : LineFault) → IsFaultOf expected fault → MayRefuse expected stops fault
may_refuse expected stops (RuleRefused refusal) h = absurd h
may_refuse expected stops (InBatch place refusal) h = absurd h
may_refuse expected stops NoMemory h = h
may_refuse expected stops fault h = h

pub is_calm : {X : Type 0} (expected : Result X LineFault) (before : ℕ) (fault : LineFault) → IsFaultOf expected fault → IsCalm {X = X} before before (Err fault)
is_calm expected before (RuleRefused refusal) h = absurd h
is_calm expected before (InBatch place refusal) h = absurd h
is_calm expected before fault h = refl
