-- What a refusal below is to who opens a file.
use Rattle.std.specs.Prelude.{ℕ}
use Rattle.rule_spec.specs.declared.rule_refusal.RuleRefusal.{RuleRefusal}
use Rattle.rule_spec.specs.declared.rule_refusal.RuleRefusal.TheVariants as cause
use Rattle.update_spec.specs.declared.refusal.Refusal.{Refusal}
use Rattle.update_spec.specs.declared.refusal.Refusal.TheVariants as judged
use Rattle.line_spec.specs.declared.line_fault.LineFault.{LineFault}
use Rattle.line_spec.specs.declared.line_fault.LineFault.TheVariants as line
use Rattle.rule_keep.specs.declared.refusals.OpenRefusal.{OpenRefusal}
use Rattle.rule_keep.specs.declared.refusals.OpenRefusal.TheVariants as opening
use Rattle.rule_keep.specs.declared.refusals.Stop.{Stop}
use Rattle.rule_keep.specs.declared.refusals.Stop.TheVariants.{Refused, HostFault, NoMemory}

abbrev pub refusal_by : Stop → ℕ → OpenRefusal
refusal_by Refused place = opening.BadRecord place
refusal_by HostFault place = opening.HostFault
refusal_by NoMemory place = opening.NoMemory

-- why a payload is not taken, by the fault of its reading
abbrev pub stop_by_cause : RuleRefusal → Stop
stop_by_cause cause.HostFault = HostFault
stop_by_cause other = Refused

abbrev pub stop_by_fault : LineFault → Stop
stop_by_fault (line.RuleRefused refusal) = stop_by_cause refusal.cause
stop_by_fault (line.InBatch place refusal) = stop_by_cause refusal.cause
stop_by_fault line.NoMemory = NoMemory
stop_by_fault other = Refused

-- and by the refusal of its update
abbrev pub stop_by_refusal : Refusal → Stop
stop_by_refusal judged.NoMemory = NoMemory
stop_by_refusal other = Refused
