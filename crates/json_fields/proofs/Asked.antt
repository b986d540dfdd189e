-- The values of fields, by their keys: for callers.
use Rattle.std.proofs.Common.{◌≡◌, ℕ, ◌<◌, List, length, map, get_or, Bool, None, option_map, sym, ap, ◌∙◌}
use Rattle.std.proofs.lemmas.List.{get_or-map}
use Rattle.serde_json.specs.Data.{Data}
use Rattle.serde_json.specs.Find.{get, get_member}
use Rattle.json_fields.specs.declared.fields.Form.TheVariants.{Object}
use Rattle.json_fields.specs.declared.field.Field.{Field}
use Rattle.json_fields.specs.Held.{seen}
use Rattle.json_fields.specs.Fields.{key_of, value_in, Gives}

-- the value at the key of this place
pub value_is : (fields : List Field) (keys : List (List ℕ × Bool)) (i : ℕ) (e : Field) (d : Data) → Gives Object fields d → map key_of fields ≡ keys → i < length fields
    → get_or (map value_in fields) i None ≡ option_map (seen (get_or keys i (key_of e)).1) (get (get_or keys i (key_of e)).0 d)
value_is fields keys i e d gives same within =
    let key : key_of (get_or fields i e) ≡ get_or keys i (key_of e) = sym (get_or-map key_of fields i e (key_of e) within) ∙ ap (λ ks. get_or ks i (key_of e)) same in
    get_or-map value_in fields i e None within
    ∙ gives.2 i e within
    ∙ ap (λ k. option_map (seen k.1) (get_member k.0 gives.0)) key
    ∙ sym (ap (λ t. option_map (seen (get_or keys i (key_of e)).1) (get (get_or keys i (key_of e)).0 t)) gives.1)
