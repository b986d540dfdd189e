-- Why a rules file gives no rules.
use Rattle.std.specs.Prelude.{◌≡◌, ℕ, List, Vec, Bool, true, false, None, Result, Ok, Err, if◌then◌else◌}
use Rattle.std.specs.declared.alloc.Global.{Global}
use Rattle.rule_spec.specs.declared.placed_refusal.PlacedRefusal.{PlacedRefusal}
use Rattle.rule_spec.specs.declared.rule_kind.RuleKind.{RuleKind}
use Rattle.rule_spec.specs.declared.rule_refusal.RuleRefusal.{RuleRefusal}
use Rattle.rule_spec.specs.declared.rule_refusal.RuleRefusal.TheVariants.{HostFault, NoMemory}
use Rattle.rule_spec.specs.Rule.{Rule}
use Rattle.rule_read.specs.Calm.{IsCalmBy}
use Rattle.json_spec.specs.RulesFile as spec
use Rattle.json_spec.specs.RulesFile.{rules_of, StopsInFile}
use Rattle.rules_file.specs.declared.FileRefusal.{FileRefusal}
use Rattle.rules_file.specs.declared.FileRefusal.TheVariants.{BadJson, BadRules}

abbrev pub refusal_seen : FileRefusal → spec.FileRefusal
refusal_seen BadJson = spec.bad_json
refusal_seen (BadRules refusal) = spec.bad_rules refusal

abbrev pub is_no_memory : RuleRefusal → Bool
is_no_memory NoMemory = true
is_no_memory _ = false

-- want of memory is of no rule
abbrev pub of_no_rule : PlacedRefusal
of_no_rule = record { place = 0; id = None; cause = NoMemory; set = None }

abbrev pub named : PlacedRefusal → PlacedRefusal
named refusal = if is_no_memory refusal.cause then of_no_rule else refusal

abbrev pub MayStop : RuleKind → List ℕ → Type 0 → PlacedRefusal → RuleRefusal → Type 0
MayStop kind bytes rose refusal HostFault = rose × StopsInFile kind bytes refusal
MayStop kind bytes rose refusal NoMemory = (refusal.place ≡ 0) × (refusal.id ≡ None)
MayStop kind bytes rose refusal cause = rules_of kind bytes ≡ Err (spec.bad_rules refusal)

abbrev pub MayRefuse : RuleKind → List ℕ → Type 0 → FileRefusal → Type 0
MayRefuse kind bytes rose BadJson = rules_of kind bytes ≡ Err spec.bad_json
MayRefuse kind bytes rose (BadRules refusal) = MayStop kind bytes rose refusal refusal.cause

-- the count of a pattern host's faults stays unless the host is why a rule is refused, or the text is no JSON
abbrev pub IsCalmFile : ℕ → ℕ → Result (Vec Rule Global) FileRefusal → Type 0
IsCalmFile before now (Ok rules) = now ≡ before
IsCalmFile before now (Err BadJson) = Unit {0}
IsCalmFile before now (Err (BadRules refusal)) = IsCalmBy before now refusal.cause
