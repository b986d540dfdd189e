-- The value that a field holds.
use Rattle.std.specs.Prelude.{◌≡◌, Bool, if◌then◌else◌}
use Rattle.serde_json.specs.Data.{Data, null, boolean, number, string, array, object, no_items, no_members}
use Rattle.serde_json.specs.View.{number_view, items_view, members_view}
use Rattle.json_fields.specs.declared.held.Held.{Held}
use Rattle.json_fields.specs.declared.held.Held.TheVariants.{Null, Bool as Truth, Number, Text, List, Object}

-- what is seen of a value: of a list or an object that is not kept, that it is one
abbrev pub seen : Bool → Data → Data
seen keeps null = null
seen keeps (boolean b) = boolean b
seen keeps (number n) = number n
seen keeps (string s) = string s
seen keeps (array ds) = array (if keeps then ds else no_items)
seen keeps (object ms) = object (if keeps then ms else no_members)

abbrev pub value_of : Held → Data
value_of Null = null
value_of (Truth b) = boolean b
value_of (Number n) = number (number_view n)
value_of (Text s) = string s.now
value_of (List values) = array (items_view values.items)
value_of (Object members) = object (members_view members.entries)

-- what is held shows the value
abbrev pub Shows : Bool → Held → Data → Type 0
Shows keeps held d = value_of held ≡ seen keeps d
