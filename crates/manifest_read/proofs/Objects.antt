-- A list of objects alone.
use Rattle.std.proofs.Common.{◌≡◌, List, [], ◌∷◌, ◌&&◌, is_some, refl, ap}
use Rattle.std.specs.List.{list_all}
use Rattle.serde_json.specs.Find.{as_object}
use Rattle.serde_json.specs.declared.value.Value.{Value}
use Rattle.serde_json.specs.View.{view, items_view}
use Rattle.load_spec.specs.Manifest.{are_objects}

pub all_are_objects : (values : List Value) → list_all (λ v. is_some (as_object (view v))) values ≡ are_objects (items_view values)
all_are_objects [] = refl
all_are_objects (value ∷ values) = ap (λ b. is_some (as_object (view value)) && b) (all_are_objects values)
