-- Where a pattern host may stop the reading of a part of a line.
use Rattle.std.specs.Prelude.{◌≡◌, ◌≤◌, ℕ, List, codes, Option, Some, None}
use Rattle.serde_json.specs.Data.{Data, Items}
use Rattle.serde_json.specs.Find.{get}
use Rattle.rule_spec.specs.declared.rule_kind.RuleKind.TheVariants.{Static}
use Rattle.rule_spec.specs.declared.placed_refusal.PlacedRefusal.{PlacedRefusal}
use Rattle.json_spec.specs.RulesFile.{StopsInTree}
use Rattle.line_spec.specs.declared.line_fault.LineFault.{LineFault}
use Rattle.line_spec.specs.declared.line_fault.LineFault.TheVariants.{BadJson, BadCommand, BadUrl, RuleRefused, InBatch, NoMemory}
use Rattle.line_spec.specs.Batch.{max_batch}
use Rattle.line_spec.specs.RequestLine.{count_of}
use Rattle.line_spec.specs.Stops.{StopsInObject, StopsInElements}
use Rattle.line_spec.specs.Updates.{of_set}

-- in the rules of the ruleset of this id
pub record StopsInSetRules (id : List ℕ) (d : Data) (refusal : PlacedRefusal) : Type 0 where
  pub inner : PlacedRefusal
  pub stops : StopsInTree Static (get (codes "rules") d) inner
  pub same : refusal ≡ of_set id inner

-- in the update at this place of a batch
abbrev pub StopsInElement : ℕ → Data → LineFault → Type 0
StopsInElement at d BadJson = ⊥
StopsInElement at d (BadCommand field) = ⊥
StopsInElement at d (BadUrl field why) = ⊥
StopsInElement at d (RuleRefused refusal) = ⊥
StopsInElement at d (InBatch place refusal) = (place ≡ at) × StopsInObject d refusal
StopsInElement at d NoMemory = ⊥

-- in one of the updates of a batch, the first of which has this place
abbrev pub StopsInEach : ℕ → Items → LineFault → Type 0
StopsInEach first items BadJson = ⊥
StopsInEach first items (BadCommand field) = ⊥
StopsInEach first items (BadUrl field why) = ⊥
StopsInEach first items (RuleRefused refusal) = ⊥
StopsInEach first items (InBatch place refusal) = StopsInElements first items place refusal
StopsInEach first items NoMemory = ⊥

-- in the list of updates, if there is one that is no longer than a batch
abbrev pub StopsInList : Option Items → LineFault → Type 0
StopsInList None fault = ⊥
StopsInList (Some items) fault = (count_of items ≤ max_batch) × StopsInEach 0 items fault
