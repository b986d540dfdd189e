-- Steps along a list of rules.
use Rattle.std.specs.Prelude.{◌≡◌, ◌++◌, ◌==◌, [], ◌∷◌, ℕ, Bool, List, length, Option, Some, None, Result, Ok, Err}
use Rattle.std.specs.List.{list_any}
use Rattle.serde_json.specs.Data.{Data, Items}
use Rattle.rule_spec.specs.declared.rule_kind.RuleKind.{RuleKind}
use Rattle.rule_spec.specs.declared.rule_refusal.RuleRefusal.{RuleRefusal}
use Rattle.rule_spec.specs.declared.rule_refusal.RuleRefusal.TheVariants.{HostFault, NoMemory}
use Rattle.rule_spec.specs.declared.placed_refusal.PlacedRefusal.{PlacedRefusal}
use Rattle.rule_spec.specs.Rule.{Rule}
use Rattle.json_spec.specs.ReadRule.{rule_in, has_id, placed, read_items, IsRuleAtPattern, StopsAtPattern}
use Rattle.json_spec.specs.MayRefuse.{MayRefuse}

-- the id is one of these
abbrev pub is_taken : List ℕ → ℕ → Bool
is_taken ids id = list_any (λ other. other == id) ids

-- the ids of the rules are those that are taken
abbrev pub Taken : List ℕ → List Rule → Type 0
Taken taken rules = (id : ℕ) → is_taken taken id ≡ has_id rules id

-- the ids that are taken stay so, and no other is, unless memory ran out
abbrev pub TakenStay : List ℕ → List ℕ → RuleRefusal → Type 0
TakenStay before now NoMemory = Unit {0}
TakenStay before now cause = now ≡ before

-- the rule of the object stands behind the others
abbrev pub ReadsNext : RuleKind → Data → List Rule → List Rule → Type 0
ReadsNext kind d rules more = (rule : Rule) × (rule_in kind (has_id rules) d ≡ Ok rule) × (more ≡ rules ++ rule ∷ [])

-- the rule behind these others is refused; `rose` says that the host's count of faults rose
pub record StopsAt (kind : RuleKind) (d : Data) (rules : List Rule) (rose : Type 0) (refusal : PlacedRefusal) : Type 0 where
  pub placed : refusal ≡ placed (length rules) d refusal.cause
  pub cause : MayRefuse (rule_in kind (has_id rules) d) (rose × IsRuleAtPattern (has_id rules) d) refusal.cause

-- where a pattern host may stop the reading of a list
abbrev pub StopsAtHost : RuleKind → Option Items → PlacedRefusal → Type 0
StopsAtHost kind None refusal = ⊥
StopsAtHost kind (Some items) refusal = StopsAtPattern kind [] items refusal

abbrev pub MayStopBy : Result (List Rule) PlacedRefusal → Type 0 → PlacedRefusal → RuleRefusal → Type 0
MayStopBy expected fault refusal HostFault = fault
MayStopBy expected fault refusal NoMemory = Unit {0}
MayStopBy expected fault refusal cause = expected ≡ Err refusal

-- the list is refused so, or memory ran out, or the host failed at the pattern of the rule that is named
abbrev pub MayStop : RuleKind → Option Items → Type 0 → PlacedRefusal → Type 0
MayStop kind items rose refusal = MayStopBy (read_items kind items) (rose × StopsAtHost kind items refusal) refusal refusal.cause
