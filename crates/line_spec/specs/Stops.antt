-- Where a pattern host may stop the reading of a line: at a rule that is at its pattern, where nothing is refused that
-- is tested before it.
use Rattle.std.specs.Prelude.{◌≡◌, ◌⊎◌, ℕ, ◌+◌, List, [], ◌∷◌, ◌++◌, codes, Bool, Option, Some, None, option_and_then, Ok, ◌≤◌}
use Rattle.serde_json.specs.Data.{Data, Items, no_items, item}
use Rattle.serde_json.specs.Find.{get, as_array}
use Rattle.rule_spec.specs.declared.rule_kind.RuleKind.{RuleKind}
use Rattle.rule_spec.specs.declared.rule_kind.RuleKind.TheVariants as kind
use Rattle.rule_spec.specs.declared.placed_refusal.PlacedRefusal.{PlacedRefusal}
use Rattle.json_spec.specs.Json.{tree_of}
use Rattle.json_spec.specs.RulesFile.{StopsInTree}
use Rattle.update_spec.specs.Update.{NewRuleSet, Update}
use Rattle.line_spec.specs.declared.command_name.CommandName.TheVariants as asked
use Rattle.line_spec.specs.declared.command_name.UpdateName.{UpdateName}
use Rattle.line_spec.specs.declared.command_name.UpdateName.TheVariants as name
use Rattle.line_spec.specs.declared.update_field.UpdateField.TheVariants as field
use Rattle.line_spec.specs.declared.line_fault.LineFault.{LineFault}
use Rattle.line_spec.specs.declared.line_fault.LineFault.TheVariants.{BadJson, BadCommand, BadUrl, RuleRefused, InBatch, NoMemory}
use Rattle.line_spec.specs.CommandName.{name_in}
use Rattle.line_spec.specs.RequestLine.{count_of}
use Rattle.line_spec.specs.Updates.{value_at, text_in, remove_in, set_id_in, enabled_in, of_set, set_in, new_name_in}
use Rattle.line_spec.specs.Batch.{max_batch, element_in, updates_at}

-- ---- in an update

-- in the rules to add
pub record StopsInAdded (kind : RuleKind) (d : Data) (refusal : PlacedRefusal) : Type 0 where
  pub extension : List ℕ
  pub named : text_in field.Extension d ≡ Ok extension
  pub remove : List ℕ
  pub removed : remove_in d ≡ Ok remove
  pub stops : StopsInTree kind (value_at field.AddRules d) refusal

-- in the rules of a ruleset behind others of these ids
pub record StopsInSet (earlier : List (List ℕ)) (d : Data) (refusal : PlacedRefusal) : Type 0 where
  pub id : List ℕ
  pub named : set_id_in earlier d ≡ Ok id
  pub enabled : Bool
  pub marked : enabled_in d ≡ Ok enabled
  pub inner : PlacedRefusal
  pub stops : StopsInTree kind.Static (get (codes "rules") d) inner
  pub same : refusal ≡ of_set id inner

-- in one of the rulesets, behind those that were read
abbrev pub StopsInSets : List (List ℕ) → Items → PlacedRefusal → Type 0
StopsInSets earlier no_items refusal = ⊥
StopsInSets earlier (item d items) refusal =
    StopsInSet earlier d refusal
    ⊎ ((set : NewRuleSet) × (set_in earlier d ≡ Ok set) × StopsInSets (earlier ++ set.id ∷ []) items refusal)

abbrev pub StopsInSetList : Option Items → PlacedRefusal → Type 0
StopsInSetList None refusal = ⊥
StopsInSetList (Some items) refusal = StopsInSets [] items refusal

pub record StopsInInstall (d : Data) (refusal : PlacedRefusal) : Type 0 where
  pub extension : List ℕ
  pub named : new_name_in d ≡ Ok extension
  pub stops : StopsInSetList (option_and_then as_array (value_at field.Rulesets d)) refusal

-- in the update of this name; those that bring no rules never stop so
abbrev pub StopsInUpdate : UpdateName → Data → PlacedRefusal → Type 0
StopsInUpdate name.Dynamic d refusal = StopsInAdded kind.Dynamic d refusal
StopsInUpdate name.Session d refusal = StopsInAdded kind.Session d refusal
StopsInUpdate name.Rulesets d refusal = ⊥
StopsInUpdate name.Static d refusal = ⊥
StopsInUpdate name.Install d refusal = StopsInInstall d refusal
StopsInUpdate name.Uninstall d refusal = ⊥

-- ---- in a line

-- in the update that an object asks for
pub record StopsInObject (d : Data) (refusal : PlacedRefusal) : Type 0 where
  pub update : UpdateName
  pub named : name_in d ≡ Some (asked.Update update)
  pub stops : StopsInUpdate update d refusal

-- in one of the updates of a batch, the first of which has the place `first`, behind those that were read
abbrev pub StopsInElements : ℕ → Items → ℕ → PlacedRefusal → Type 0
StopsInElements first no_items place refusal = ⊥
StopsInElements first (item d items) place refusal =
    ((place ≡ first) × StopsInObject d refusal)
    ⊎ ((update : Update) × (element_in first d ≡ Ok update) × StopsInElements (first + 1) items place refusal)

pub record StopsInBatch (d : Data) (place : ℕ) (refusal : PlacedRefusal) : Type 0 where
  pub named : name_in d ≡ Some asked.Batch
  pub items : Items
  pub listed : updates_at d ≡ Some items
  pub few : count_of items ≤ max_batch
  pub stops : StopsInElements 0 items place refusal

abbrev pub StopsInCommand : Data → LineFault → Type 0
StopsInCommand d BadJson = ⊥
StopsInCommand d (BadCommand field) = ⊥
StopsInCommand d (BadUrl field why) = ⊥
StopsInCommand d (RuleRefused refusal) = StopsInObject d refusal
StopsInCommand d (InBatch place refusal) = StopsInBatch d place refusal
StopsInCommand d NoMemory = ⊥

abbrev pub StopsIn : Option Data → LineFault → Type 0
StopsIn None fault = ⊥
StopsIn (Some d) fault = StopsInCommand d fault

-- the line may be refused so in place of what it reads as, where a pattern host fails
abbrev pub StopsInLine : List ℕ → LineFault → Type 0
StopsInLine line fault = StopsIn (tree_of line) fault
