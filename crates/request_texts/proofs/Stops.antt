-- A part at fault is a fault of the whole.
use Rattle.std.proofs.Common.{Result, ap}
use Rattle.line_spec.specs.declared.line_fault.LineFault.{LineFault}
use Rattle.line_spec.specs.declared.line_fault.LineFault.TheVariants.{RuleRefused, InBatch, NoMemory}
use Rattle.line_spec.specs.Reading.{and_then}
use Rattle.line_spec.specs.IsFault.{IsFaultOf}

pub stops_there : {X Y : Type 0} (part : Result X LineFault) (go_on : X → Result Y LineFault) (fault : LineFault) → IsFaultOf part fault → IsFaultOf (and_then part go_on) fault
stops_there part go_on (RuleRefused refusal) h = absurd h
stops_there part go_on (InBatch place refusal) h = absurd h
stops_there part go_on NoMemory h = h
stops_there part go_on fault h = ap (λ p. and_then p go_on) h
