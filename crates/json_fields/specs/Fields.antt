-- What fields hold of the members of an object.
use Rattle.std.specs.Prelude.{◌≡◌, ℕ, ◌<◌, List, length, map, get_or, Bool, Option, None, option_map}
use Rattle.std.specs.List.{All}
use Rattle.serde_json.specs.Data.{Data, object, Members, put}
use Rattle.serde_json.specs.Find.{get_member, as_object}
use Rattle.json_fields.specs.declared.field.Field.{Field}
use Rattle.json_fields.specs.declared.fields.Form.{Form}
use Rattle.json_fields.specs.declared.fields.Form.TheVariants.{Object, Other}
use Rattle.json_fields.specs.Held.{seen, value_of}

-- what is asked for
abbrev pub key_of : Field → List ℕ × Bool
key_of field = (field.name.now, field.keeps)

-- no name comes twice
abbrev pub AreDistinct : List (List ℕ × Bool) → Type 0
AreDistinct keys = (i j : ℕ) (d : List ℕ × Bool) → i < length keys → j < length keys → (get_or keys i d).0 ≡ (get_or keys j d).0 → i ≡ j

abbrev pub AreApart : List Field → Type 0
AreApart fields = AreDistinct (map key_of fields)

abbrev pub IsEmpty : Field → Type 0
IsEmpty field = field.held ≡ None

-- the value in a field
abbrev pub value_in : Field → Option Data
value_in field = option_map value_of field.held

-- the field holds the value at its name
abbrev pub HoldsIts : Members → Field → Type 0
HoldsIts ms field = value_in field ≡ option_map (seen field.keeps) (get_member field.name.now ms)

abbrev pub Holds : List Field → Members → Type 0
Holds fields ms = All (HoldsIts ms) fields

-- the fields have the value of one member more
abbrev pub IsPut : List ℕ → Data → List Field → List Field → Type 0
IsPut k d old new = (ms : Members) → Holds old ms → Holds new (put k d ms)

-- what a text is, and where it is an object what the fields hold of it
abbrev pub Gives : Form → List Field → Data → Type 0
Gives Object fields d = (ms : Members) × (d ≡ object ms) × Holds fields ms
Gives Other fields d = as_object d ≡ None
