-- The text of a payload: one object in compact JSON, whose keys ascend. Rules stand in it as elsewhere.
use Rattle.std.specs.Prelude.{◌≡◌, ℕ, List, [], ◌∷◌, codes, IsTrue, Bool, not, Some}
use Rattle.std.specs.List.{list_all}
use Rattle.serde_json.specs.Data.{Data, number, unsigned, string}
use Rattle.serde_json.specs.Written.{compact_text}
use Rattle.rule_spec.specs.Rule.{Rule}
use Rattle.rule_spec.specs.IsRule.{is_number}
use Rattle.json_spec.specs.Written.{Field, object_of, written_list, rules_written}
use Rattle.written_laws.specs.Normal.{names_tabs}
use Rattle.written_laws.specs.Read.{IdsDiffer}
use Rattle.update_spec.specs.Update.{Update, dynamic}

abbrev pub id_written : ℕ → Data
id_written id = number (unsigned id)

abbrev pub update_fields : List ℕ → List ℕ → List Rule → List Field
update_fields name remove add =
    (codes "addRules", Some (rules_written add))
    ∷ (codes "cmd", Some (string (codes "dynamic")))
    ∷ (codes "extension", Some (string name))
    ∷ (codes "removeRuleIds", Some (written_list id_written remove))
    ∷ []

-- the dynamic update of this extension that removes rules of these ids and adds others
unfoldable pub update_written : List ℕ → List ℕ → List Rule → Data
update_written name remove add = object_of (update_fields name remove add)

abbrev pub payload_text : List ℕ → List ℕ → List Rule → List ℕ
payload_text name remove add = compact_text (update_written name remove add)

-- none of these rules names tabs
abbrev pub are_tabless : List Rule → Bool
are_tabless rules = list_all (λ rule. not (names_tabs rule)) rules

-- What is kept is a dynamic update of this extension; its ids to remove are ids that a rule can have, and its added
-- rules differ in id and name no tabs.
pub record MayBeKept (name : List ℕ) (update : Update) : Type 0 where
  pub remove : List ℕ
  pub add : List Rule
  pub is : update ≡ dynamic name remove add
  pub ids : IsTrue (list_all is_number remove)
  pub differ : IdsDiffer add
  pub tabless : IsTrue (are_tabless add)

-- the text that is kept of an update
abbrev pub text_of : Update → List ℕ
text_of (dynamic name remove add) = payload_text name remove add
text_of other = []
