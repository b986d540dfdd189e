-- A rules file: the JSON of a list of rules, of which each has an id of its own, or the first refusal.
use Rattle.std.specs.Prelude.{ℕ, List, [], Option, Some, None, Result, Ok, Err}
use Rattle.serde_json.specs.Data.{Data, Items}
use Rattle.serde_json.specs.Find.{as_array}
use Rattle.rule_spec.specs.declared.rule_kind.RuleKind.{RuleKind}
use Rattle.rule_spec.specs.declared.placed_refusal.PlacedRefusal.{PlacedRefusal}
use Rattle.rule_spec.specs.Rule.{Rule}
use Rattle.json_spec.specs.Json.{tree_of}
use Rattle.json_spec.specs.ReadRule.{read_rules, StopsAtPattern}

-- the most bytes of a rules file
abbrev pub max_file : ℕ
max_file = 33554432

-- why a file is refused: it is no JSON, or its list of rules is refused so
pub data FileRefusal : Type 0 where
  bad_json : FileRefusal
  bad_rules : PlacedRefusal → FileRefusal

abbrev pub rules_or_refusal : Result (List Rule) PlacedRefusal → Result (List Rule) FileRefusal
rules_or_refusal (Ok rules) = Ok rules
rules_or_refusal (Err refusal) = Err (bad_rules refusal)

abbrev pub rules_in_tree : RuleKind → Option Data → Result (List Rule) FileRefusal
rules_in_tree kind None = Err bad_json
rules_in_tree kind (Some d) = rules_or_refusal (read_rules kind d)

-- the rules of a file
abbrev pub rules_of : RuleKind → List ℕ → Result (List Rule) FileRefusal
rules_of kind bytes = rules_in_tree kind (tree_of bytes)

-- ---- where a pattern host may fail

abbrev pub StopsInList : RuleKind → Option Items → PlacedRefusal → Type 0
StopsInList kind None refusal = ⊥
StopsInList kind (Some items) refusal = StopsAtPattern kind [] items refusal

abbrev pub StopsInTree : RuleKind → Option Data → PlacedRefusal → Type 0
StopsInTree kind None refusal = ⊥
StopsInTree kind (Some d) refusal = StopsInList kind (as_array d) refusal

-- the file is JSON, and the refusal names a rule that is at its pattern, behind rules that were read
abbrev pub StopsInFile : RuleKind → List ℕ → PlacedRefusal → Type 0
StopsInFile kind bytes refusal = StopsInTree kind (tree_of bytes) refusal
