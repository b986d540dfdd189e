-- The ids of rules among whole numbers.
use Rattle.std.specs.Prelude.{ℕ, List, [], ◌∷◌, ◌++◌, filter_map, Option, Some, None, option_map}
use Rattle.serde_json.specs.Data.{Items}
use Rattle.json_spec.specs.RuleFields.{each}
use Rattle.line_spec.specs.Updates.{as_whole, rule_id}

abbrev pub ids_in : Items → Option (List ℕ)
ids_in items = option_map (filter_map rule_id) (each as_whole items)

-- the id behind the others, where there is one
abbrev pub with_id : Option ℕ → List ℕ → List ℕ
with_id None ids = ids
with_id (Some id) ids = ids ++ id ∷ []
