-- The rules of a list, and why they are refused.
use Rattle.std.proofs.Common.{◌≡◌, ℕ, List, false, Option, Some, None, Ok, refl, sym, ap, subst}
use Rattle.std.specs.Prelude.{is_none}
use Rattle.serde_json.specs.Data.{Data, Items}
use Rattle.serde_json.specs.Find.{as_array}
use Rattle.rule_spec.specs.declared.rule_kind.RuleKind.{RuleKind}
use Rattle.rule_spec.specs.declared.rule_refusal.RuleRefusal.{RuleRefusal}
use Rattle.rule_spec.specs.declared.rule_refusal.RuleRefusal.TheVariants as rule
use Rattle.rule_spec.specs.declared.placed_refusal.PlacedRefusal.{PlacedRefusal}
use Rattle.rule_spec.specs.Rule.{Rule}
use Rattle.json_spec.specs.ReadRule.{read_items, read_rules}
use Rattle.json_spec.specs.RulesFile.{StopsInList}
use Rattle.rule_read.specs.Calm.{IsCalmBy}
use Rattle.rule_read.specs.Reading.{MayStop, MayStopBy}
use Rattle.line_spec.specs.declared.update_field.UpdateField.{UpdateField}
use Rattle.line_spec.specs.Updates.{rules_of_list, unless_refused}
use Rattle.script_read.specs.Faults as faults
use Rattle.script_read.specs.Faults.{MayRefuse, IsQuiet, fault_of, fault_by}

abbrev StopsBy : UpdateField → RuleKind → Items → Type 0 → PlacedRefusal → RuleRefusal → Type 0
StopsBy f kind items rose refusal cause =
    faults.MayStopBy (rules_of_list f kind (Some items)) (rose × StopsInList kind (Some items) refusal) refusal cause

-- the same, where the cause is one that is known
by_cause : (f : UpdateField) (kind : RuleKind) (items : Items) (rose : Type 0) (refusal : PlacedRefusal) (cause : RuleRefusal) → refusal.cause ≡ cause
    → MayStopBy (read_items kind (Some items)) (rose × StopsInList kind (Some items) refusal) refusal cause
    → MayRefuse (rules_of_list f kind (Some items)) (λ r. rose × StopsInList kind (Some items) r) (fault_by refusal cause)
by_cause f kind items rose refusal rule.HostFault is h = subst (StopsBy f kind items rose refusal) (sym is) h
by_cause f kind items rose refusal rule.NoMemory is h = tt
by_cause f kind items rose refusal cause is h = subst (StopsBy f kind items rose refusal) (sym is) (ap unless_refused h)

pub rules_refused : (f : UpdateField) (kind : RuleKind) (items : Items) (rose : Type 0) (refusal : PlacedRefusal) → MayStop kind (Some items) rose refusal
    → MayRefuse (rules_of_list f kind (Some items)) (λ r. rose × StopsInList kind (Some items) r) (fault_of refusal)
rules_refused f kind items rose refusal h = by_cause f kind items rose refusal refusal.cause refl h

quiet_by : (before now : ℕ) (refusal : PlacedRefusal) (cause : RuleRefusal) → refusal.cause ≡ cause → IsCalmBy before now cause → IsQuiet before now (fault_by refusal cause)
quiet_by before now refusal rule.HostFault is h = subst (IsCalmBy before now) (sym is) h
quiet_by before now refusal rule.NoMemory is h = h
quiet_by before now refusal cause is h = subst (IsCalmBy before now) (sym is) h

pub rules_quiet : (before now : ℕ) (refusal : PlacedRefusal) → IsCalmBy before now refusal.cause → IsQuiet before now (fault_of refusal)
rules_quiet before now refusal h = quiet_by before now refusal refusal.cause refl h

read_of : (f : UpdateField) (kind : RuleKind) (found : Option Items) (rules : List Rule) → is_none found ≡ false → read_items kind found ≡ Ok rules → rules_of_list f kind found ≡ Ok rules
read_of f kind None rules some h = absurd (cc)
read_of f kind (Some items) rules some h = ap unless_refused h

pub rules_read : (f : UpdateField) (kind : RuleKind) (d : Data) (rules : List Rule) → is_none (as_array d) ≡ false → read_rules kind d ≡ Ok rules → rules_of_list f kind (as_array d) ≡ Ok rules
unfolding read_rules
rules_read f kind d rules some h = read_of f kind (as_array d) rules some h
