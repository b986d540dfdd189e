-- When values stand for the updates of a batch.
use Rattle.std.specs.Prelude.{◌≡◌, ◌≤◌, ℕ, List, Option, Some, None, option_map, Err, Vec}
use Rattle.std.specs.declared.alloc.Global.{Global}
use Rattle.serde_json.specs.Data.{Data, object, Items, Members, put}
use Rattle.serde_json.specs.View.{items_view}
use Rattle.serde_json.specs.declared.value.Value.{Value}
use Rattle.rule_spec.specs.declared.placed_refusal.PlacedRefusal.{PlacedRefusal}
use Rattle.line_spec.specs.declared.command_path.CommandPath.TheVariants as path
use Rattle.line_spec.specs.declared.line_fault.LineFault.TheVariants.{BadCommand}
use Rattle.line_spec.specs.RequestLine.{count_of}
use Rattle.line_spec.specs.Batch.{max_batch, elements_from, elements_of, updates_at}
use Rattle.line_spec.specs.Stops.{StopsInElements}

-- items read as the updates of a batch as others do
pub record ReadAsAll (kept all : Items) : Type 0 where
  pub count : count_of kept ≡ count_of all
  pub elements : (first : ℕ) → elements_from first kept ≡ elements_from first all
  pub stops : (first place : ℕ) (refusal : PlacedRefusal) → StopsInElements first kept place refusal → StopsInElements first all place refusal

-- items stand for those of a list that is no longer than a batch, and nothing for any other and for no list
abbrev pub HoldsList : Option Items → Option Items → Type 0
HoldsList None found = elements_of found ≡ Err (BadCommand path.Updates)
HoldsList (Some kept) None = ⊥
HoldsList (Some kept) (Some all) = ReadAsAll kept all × (count_of all ≤ max_batch)

-- and so for the list of updates of a batch
abbrev pub HoldsBatch : Option Items → Data → Type 0
HoldsBatch kept d = HoldsList kept (updates_at d)

-- and so with one member more
abbrev pub HoldsMore : List ℕ → Data → Option Items → Option Items → Type 0
HoldsMore k d old new = (ms : Members) → HoldsBatch old (object ms) → HoldsBatch new (object (put k d ms))

abbrev pub items_kept : Option (Vec Value Global) → Option Items
items_kept kept = option_map (λ vs. items_view vs.items) kept
