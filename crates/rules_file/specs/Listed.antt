-- A list of rules that is a member of the object that a text is.
use Rattle.std.specs.Prelude.{◌≡◌, ℕ, List, [], ◌∷◌, Bool, true, false, Option, Some, None, option_and_then, IsSome, Result, Ok, Err}
use Rattle.std.specs.Str.{IsUtf8}
use Rattle.json.specs.Token.{Token}
use Rattle.json.specs.Lex.{tokens}
use Rattle.serde_json.specs.Data.{Data, Items}
use Rattle.serde_json.specs.Find.{as_array, as_object}
use Rattle.rule_spec.specs.declared.rule_kind.RuleKind.{RuleKind}
use Rattle.json_spec.specs.Json.{tree_of}
use Rattle.json_spec.specs.ReadRule.{read_items}
use Rattle.json_fields.specs.declared.tree.Fault.{Fault}
use Rattle.json_fields.specs.declared.tree.Fault.TheVariants.{BadJson, NoMemory}
use Rattle.json_fields.specs.Last.{HasTimes}
use Rattle.rule_read.specs.Calm.{IsCalmBy}
use Rattle.rule_read.specs.Reading.{MayStop}
use Rattle.rules_file.specs.declared.listed.Listed.{Listed}
use Rattle.rules_file.specs.declared.listed.Listed.TheVariants.{Absent, Other, Rules, Refused}

-- the text is this object
abbrev pub IsObject : List ℕ → Data → Type 0
IsObject bytes d = (tree_of bytes ≡ Some d) × IsSome (as_object d)

abbrev pub IsNoObject : List ℕ → Type 0
IsNoObject bytes = (d : Data) → IsObject bytes d → ⊥

-- what is said of the value that was found
abbrev pub IsListed : RuleKind → Option Data → Type 0 → Listed → Type 0
IsListed kind found rose Absent = found ≡ None
IsListed kind found rose Other = IsSome found × (option_and_then as_array found ≡ None)
IsListed kind found rose (Rules rules) = (items : Items) × (option_and_then as_array found ≡ Some items) × (read_items kind (Some items) ≡ Ok rules.items)
IsListed kind found rose (Refused refusal) = (items : Items) × (option_and_then as_array found ≡ Some items) × MayStop kind (Some items) rose refusal

-- the count of a pattern host's faults stays unless the host is why a rule is refused, or the text is no JSON
abbrev pub IsCalmListed : ℕ → ℕ → Result Listed Fault → Type 0
IsCalmListed before now (Ok Absent) = now ≡ before
IsCalmListed before now (Ok Other) = now ≡ before
IsCalmListed before now (Ok (Rules rules)) = now ≡ before
IsCalmListed before now (Ok (Refused refusal)) = IsCalmBy before now refusal.cause
IsCalmListed before now (Err BadJson) = Unit {0}
IsCalmListed before now (Err NoMemory) = now ≡ before

-- ---- behind the brace of an object

abbrev pub is_brace : List Token → Bool
is_brace [] = false
is_brace (Token.begin_object ∷ ts) = true
is_brace (Token.end_object ∷ ts) = false
is_brace (Token.begin_array ∷ ts) = false
is_brace (Token.end_array ∷ ts) = false
is_brace (Token.key s ∷ ts) = false
is_brace (Token.string s ∷ ts) = false
is_brace (Token.number s ∷ ts) = false
is_brace (Token.boolean b ∷ ts) = false
is_brace (Token.null ∷ ts) = false
is_brace (Token.bad ∷ ts) = false

-- behind the brace that opens it, an object has so many members of the name
pub record HasTimesIn (bytes name : List ℕ) (n : ℕ) : Type 0 where
  pub behind : List Token
  pub utf8 : IsUtf8 bytes
  pub opens : tokens bytes ≡ Token.begin_object ∷ behind
  pub times : HasTimes 126 name behind n
