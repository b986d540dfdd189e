-- A chain of readings, of which the first at fault is the fault of the whole.
use Rattle.std.proofs.Common.{◌≡◌, ℕ, Result, Ok, Err, sym, ap, subst}
use Rattle.std.specs.Result.{IfErr, IsErrAnd}
use Rattle.rule_spec.specs.declared.rule_refusal.RuleRefusal.{RuleRefusal}
use Rattle.rule_spec.specs.declared.rule_refusal.RuleRefusal.TheVariants as rule
use Rattle.rule_spec.specs.declared.placed_refusal.PlacedRefusal.{PlacedRefusal}
use Rattle.line_spec.specs.declared.update_fault.UpdateFault.{UpdateFault}
use Rattle.line_spec.specs.declared.update_fault.UpdateFault.TheVariants.{BadField, RuleRefused, NoMemory}
use Rattle.line_spec.specs.Reading.{and_then}
use Rattle.script_read.specs.Faults.{MayStopBy, MayRefuse, IsFaultOf, IsQuiet}

-- what `?` hands on is what was answered
pub handed_on : {X E : Type 0} (result : Result X E) (e : E) (P : E → Type 0) → IsErrAnd result (λ x. x ≡ e) → P e → IfErr result P
handed_on (Ok x) e P is h = tt
handed_on (Err x) e P is h = subst P (sym is) h

-- ---- where no rule is read

pub stops_there : {X Y : Type 0} (part : Result X UpdateFault) (go_on : X → Result Y UpdateFault) (fault : UpdateFault) → IsFaultOf part fault → IsFaultOf (and_then part go_on) fault
stops_there part go_on (BadField field) h = ap (λ p. and_then p go_on) h
stops_there part go_on (RuleRefused refusal) h = absurd h
stops_there part go_on NoMemory h = tt

pub may_refuse : {X : Type 0} (part : Result X UpdateFault) (stops : PlacedRefusal → Type 0) (fault : UpdateFault) → IsFaultOf part fault → MayRefuse part stops fault
may_refuse part stops (BadField field) h = h
may_refuse part stops (RuleRefused refusal) h = absurd h
may_refuse part stops NoMemory h = tt

pub stops_plainly : {X Y : Type 0} (part : Result X UpdateFault) (go_on : X → Result Y UpdateFault) (stops : PlacedRefusal → Type 0) (fault : UpdateFault) → IsFaultOf part fault → MayRefuse (and_then part go_on) stops fault
stops_plainly part go_on stops fault h = may_refuse (and_then part go_on) stops fault (stops_there part go_on fault h)

-- a fault that is not a host's leaves its count
pub is_quiet : {X : Type 0} (part : Result X UpdateFault) (before now : ℕ) (fault : UpdateFault) → now ≡ before → IsFaultOf part fault → IsQuiet before now fault
is_quiet part before now (BadField field) same h = same
is_quiet part before now (RuleRefused refusal) same h = absurd h
is_quiet part before now NoMemory same h = same

-- ---- where rules are read

stopped_by : {X Y : Type 0} (part : Result X UpdateFault) (go_on : X → Result Y UpdateFault) (inner outer : Type 0) (refusal : PlacedRefusal) (cause : RuleRefusal)
    → (inner → outer) → MayStopBy part inner refusal cause → MayStopBy (and_then part go_on) outer refusal cause
stopped_by part go_on inner outer refusal rule.HostFault lift h = lift h
stopped_by part go_on inner outer refusal rule.NoMemory lift h = h
stopped_by part go_on inner outer refusal cause lift h = ap (λ p. and_then p go_on) h

pub stops_within : {X Y : Type 0} (part : Result X UpdateFault) (go_on : X → Result Y UpdateFault) (inner outer : PlacedRefusal → Type 0) (fault : UpdateFault)
    → ((refusal : PlacedRefusal) → inner refusal → outer refusal) → MayRefuse part inner fault → MayRefuse (and_then part go_on) outer fault
stops_within part go_on inner outer (BadField field) lift h = ap (λ p. and_then p go_on) h
stops_within part go_on inner outer (RuleRefused refusal) lift h = stopped_by part go_on (inner refusal) (outer refusal) refusal refusal.cause (lift refusal) h
stops_within part go_on inner outer NoMemory lift h = tt

-- a part that was read leaves it to the rest
pub goes_on : {X Y : Type 0} (part : Result X UpdateFault) (x : X) (go_on : X → Result Y UpdateFault) (stops : PlacedRefusal → Type 0) (fault : UpdateFault)
    → part ≡ Ok x → MayRefuse (go_on x) stops fault → MayRefuse (and_then part go_on) stops fault
goes_on part x go_on stops fault is h = subst (λ p. MayRefuse (and_then p go_on) stops fault) (sym is) h
