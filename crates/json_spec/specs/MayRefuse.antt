-- Why a reading stops: the definition refuses it so, or memory ran out, or a pattern host failed.
use Rattle.std.specs.Prelude.{◌≡◌, Option, Some, Result, Err}
use Rattle.rule_spec.specs.declared.rule_refusal.RuleRefusal.{RuleRefusal}
use Rattle.rule_spec.specs.declared.rule_refusal.RuleRefusal.TheVariants.{HostFault, NoMemory}

-- `fault` says when a pattern host may fail
abbrev pub MayRefuse : {X : Type 0} → Result X RuleRefusal → Type 0 → RuleRefusal → Type 0
MayRefuse expected fault HostFault = fault
MayRefuse expected fault NoMemory = Unit {0}
MayRefuse expected fault refusal = expected ≡ Err refusal

-- the same where no pattern is asked for
abbrev pub IsRefused : {X : Type 0} → Result X RuleRefusal → RuleRefusal → Type 0
IsRefused expected refusal = MayRefuse expected ⊥ refusal

-- the same of a test alone
abbrev pub RefusesTest : Option RuleRefusal → Type 0 → RuleRefusal → Type 0
RefusesTest expected fault HostFault = fault
RefusesTest expected fault NoMemory = Unit {0}
RefusesTest expected fault refusal = expected ≡ Some refusal
