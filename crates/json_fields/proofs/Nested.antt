-- A held of a list or an object, from what stands in its brackets.
use Rattle.std.proofs.Common.{◌≡◌, List, Option, Some, Result, Ok, Err, Bool, ap, ◌∙◌}
use Rattle.std.specs.Prelude.{IfOk}
use Rattle.json.specs.Token.{Token}
use Rattle.json.specs.Json.{parse_map}
use Rattle.serde_json.specs.Data.{Data}
use Rattle.json_fields.specs.declared.held.Held.{Held}
use Rattle.json_fields.specs.declared.tree.Fault.{Fault}
use Rattle.json_fields.specs.Held.{Shows}

pub held_of : {A : Type 0} (f : A → Data) (whole : Option (Data × List Token)) (inner : Option (A × List Token)) (r : List Token) (keeps : Bool) (result : Result Held Fault) → whole ≡ parse_map f inner
    → IfOk result (λ held. (a : A) × (inner ≡ Some (a, r)) × Shows keeps held (f a)) → IfOk result (λ held. (d : Data) × (whole ≡ Some (d, r)) × Shows keeps held d)
held_of f whole inner r keeps (Ok held) e h = (f h.0, e ∙ ap (parse_map f) h.1, h.2)
held_of f whole inner r keeps (Err fault) e h = tt
