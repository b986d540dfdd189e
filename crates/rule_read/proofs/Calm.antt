-- Where the count stays, it stays whatever is refused.
use Rattle.std.proofs.Common.{◌≡◌, ℕ, subst, sym, ap, ◌∙◌}
use Rattle.rule_spec.specs.declared.rule_refusal.RuleRefusal.{RuleRefusal}
use Rattle.rule_spec.specs.declared.rule_refusal.RuleRefusal.TheVariants.{HostFault}
use Rattle.rule_read.specs.Calm.{IsCalmBy}

pub is_calm : (before now : ℕ) (cause : RuleRefusal) → now ≡ before → IsCalmBy before now cause
is_calm before now HostFault h = tt
is_calm before now cause h = h

-- a refusal behind a step that left the count
pub calm_since : (before then now : ℕ) (cause : RuleRefusal) → then ≡ before → IsCalmBy then now cause → IsCalmBy before now cause
calm_since before then now HostFault h k = tt
calm_since before then now cause h k = k ∙ h
