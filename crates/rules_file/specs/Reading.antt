-- What is read of the tokens of a file, item by item.
use Rattle.std.specs.Prelude.{◌≡◌, ℕ, ◌≤◌, List, length, Vec, Option, Some, None, Result, Ok, Err}
use Rattle.std.specs.declared.alloc.Global.{Global}
use Rattle.json.specs.Token.{Token}
use Rattle.json.specs.Json as json
use Rattle.json.specs.Json.{parse_map}
use Rattle.serde_json.specs.Data.{Data, Items}
use Rattle.serde_json.specs.Find.{as_array}
use Rattle.serde_json.specs.Read.{of_json, of_items, converted}
use Rattle.json_fields.specs.declared.tree.Fault.{Fault}
use Rattle.json_fields.specs.declared.tree.Fault.TheVariants.{BadJson, NoMemory}
use Rattle.json_fields.specs.declared.fields.Form.{Form}
use Rattle.json_fields.specs.declared.fields.Form.TheVariants.{Object, Other}
use Rattle.rule_spec.specs.declared.rule_kind.RuleKind.{RuleKind}
use Rattle.rule_spec.specs.declared.placed_refusal.PlacedRefusal.{PlacedRefusal}
use Rattle.rule_spec.specs.Rule.{Rule}
use Rattle.json_spec.specs.ReadRule.{read_items}
use Rattle.rule_read.specs.Calm.{IsCalmBy}
use Rattle.rule_read.specs.Reading.{MayStop, StopsAt, ReadsNext}

-- the next value, nested no deeper than so, and the tokens behind it
abbrev pub value_in : ℕ → List Token → Option (Data × List Token)
value_in depth ts = converted of_json (json.value depth ts)

-- the items up to the bracket that closes their list, and the tokens behind it; `n` bounds their count
abbrev pub items_in : ℕ → ℕ → List Token → Option (Items × List Token)
items_in depth n ts = converted of_items (json.items (json.value depth) n ts)

-- there is a value
abbrev pub HasValue : ℕ → List Token → Data → List Token → Type 0
HasValue depth ts d rest = value_in depth ts ≡ Some (d, rest)

-- there are items, whatever bound stands
abbrev pub HasItems : ℕ → List Token → Items → List Token → Type 0
HasItems depth ts items rest = (n : ℕ) → length ts ≤ n → items_in depth n ts ≡ Some (items, rest)

-- the tokens are no items
abbrev pub HasNoItems : ℕ → List Token → Type 0
HasNoItems depth ts = (n : ℕ) → length ts ≤ n → items_in depth n ts ≡ None

-- the rule behind the others, or why it is refused
abbrev pub Next : RuleKind → Data → List Rule → List Rule → Type 0 → Option PlacedRefusal → Type 0
Next kind d rules more rose None = ReadsNext kind d rules more
Next kind d rules more rose (Some refusal) = StopsAt kind d rules rose refusal

-- the rules of the items, or why they are refused
abbrev pub Answers : RuleKind → Option Items → Type 0 → Result (Vec Rule Global) PlacedRefusal → Type 0
Answers kind items rose (Ok rules) = read_items kind items ≡ Ok rules.items
Answers kind items rose (Err refusal) = MayStop kind items rose refusal

-- the count of a pattern host's faults stays unless the host is why a rule is refused
abbrev pub IsCalmFound : ℕ → ℕ → Result (Option PlacedRefusal) Fault → Type 0
IsCalmFound before now (Ok None) = now ≡ before
IsCalmFound before now (Ok (Some refusal)) = IsCalmBy before now refusal.cause
IsCalmFound before now (Err fault) = now ≡ before

-- the same of a whole list, unless the text behind it is no JSON
abbrev pub IsCalmAnswer : ℕ → ℕ → Result (Result (Vec Rule Global) PlacedRefusal) Fault → Type 0
IsCalmAnswer before now (Ok (Ok rules)) = now ≡ before
IsCalmAnswer before now (Ok (Err refusal)) = IsCalmBy before now refusal.cause
IsCalmAnswer before now (Err BadJson) = Unit {0}
IsCalmAnswer before now (Err NoMemory) = now ≡ before

-- the items, of which these tokens are the last, are refused so
pub record StopsBefore (depth : ℕ) (kind : RuleKind) (whole rest : List Token) (rose : Type 0) (refusal : PlacedRefusal) : Type 0 where
  pub front : Items → Items
  pub left : (n : ℕ) → length whole ≤ n → (m : ℕ) × (length rest ≤ m) × (items_in depth n whole ≡ parse_map front (items_in depth m rest))
  pub stops : (items : Items) → MayStop kind (Some (front items)) rose refusal

-- where the form says that the value is an object, it is no list
abbrev pub IsForm : Form → Data → Type 0
IsForm Object d = as_array d ≡ None
IsForm Other d = Unit {0}
