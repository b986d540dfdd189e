-- What a refusal leaves of the count of a pattern host's faults.
use Rattle.std.specs.Prelude.{◌≡◌, ℕ}
use Rattle.rule_spec.specs.declared.rule_refusal.RuleRefusal.{RuleRefusal}
use Rattle.rule_spec.specs.declared.rule_refusal.RuleRefusal.TheVariants.{HostFault}

-- the count stays unless the host is the cause
abbrev pub IsCalmBy : ℕ → ℕ → RuleRefusal → Type 0
IsCalmBy before now HostFault = Unit {0}
IsCalmBy before now cause = now ≡ before
