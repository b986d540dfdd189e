-- Updates, and the state that each leaves: Chrome's reference of declarativeNetRequest, `updateDynamicRules`,
-- `updateSessionRules`, `updateEnabledRulesets` and `updateStaticRules`; and the installation of extensions.
use Rattle.std.specs.Prelude.{ℕ, ◌+◌, List, [], ◌∷◌, ◌++◌, map, filter, Bool, not, ◌&&◌, ◌||◌, if◌then◌else◌, ℤ, pos, Option}
use Rattle.std.specs.List.{list_any}
use Rattle.std.specs.Ordering.{int_eq}
use Rattle.std.specs.Str.{bytes_eq}
use Rattle.rule_spec.specs.Rule.{Rule}
use Rattle.rule_spec.specs.State.{RuleSet, Extension, State, has_number}

-- ---- what is installed

-- A static ruleset as its extension brings it. `origins` has the lines of a filter list that each rule comes from, or
-- is empty.
pub record NewRuleSet : Type 0 where
  pub id : List ℕ
  pub enabled : Bool
  pub rules : List Rule
  pub origins : List (List ℕ)

-- An extension as it is brought: its rulesets in the order of its manifest, and the texts of the match patterns of the
-- requests that it has access to, if they are restricted.
pub record NewExtension : Type 0 where
  pub name : List ℕ
  pub sets : List NewRuleSet
  pub access : Option (List (List ℕ))

-- nothing of it is switched off
abbrev pub installed_set : NewRuleSet → RuleSet
installed_set set = record { id = set.id; enabled = set.enabled; rules = set.rules; origins = set.origins; disabled = [] }

-- and no rules were added yet
abbrev pub installed : NewExtension → Extension
installed new = record {
  name = new.name;
  sets = map installed_set new.sets;
  access = new.access;
  dynamic = [];
  session = [];
}

-- ---- updates

-- Each but an installation begins with the extension's name. `dynamic` and `session` have the ids to remove and the
-- rules to add; `rulesets` the ids of rulesets to disable and to enable; `static` the id of a ruleset and the ids of
-- rules to disable and to enable, which may be any whole numbers.
pub data Update : Type 0 where
  dynamic : List ℕ → List ℕ → List Rule → Update
  session : List ℕ → List ℕ → List Rule → Update
  rulesets : List ℕ → List (List ℕ) → List (List ℕ) → Update
  static : List ℕ → List ℕ → List ℤ → List ℤ → Update
  install : NewExtension → Update
  uninstall : List ℕ → Update

-- the extension that is updated
abbrev pub name_in : Update → List ℕ
name_in (dynamic name remove add) = name
name_in (session name remove add) = name
name_in (rulesets name disable enable) = name
name_in (static name set disable enable) = name
name_in (install new) = new.name
name_in (uninstall name) = name

-- ---- the state after an update

-- the list with the first that passes the test changed; names and ids are there once, so it is the one that is meant
abbrev pub with_first : {X : Type 0} → (X → Bool) → (X → X) → List X → List X
with_first is_meant change [] = []
with_first is_meant change (x ∷ xs) = if is_meant x then change x ∷ xs else x ∷ with_first is_meant change xs

abbrev pub has_text : List (List ℕ) → List ℕ → Bool
has_text texts text = list_any (λ other. bytes_eq text other) texts

-- whether a rule's id is one of these whole numbers
abbrev pub has_whole : List ℤ → ℕ → Bool
has_whole numbers id = list_any (λ other. int_eq (pos id) other) numbers

-- the rules that stay when those of these ids are removed; an id that no rule has removes nothing
abbrev pub without_ids : List ℕ → List Rule → List Rule
without_ids remove rules = filter (λ rule. not (has_number remove rule.id)) rules

-- removes first, then adds
abbrev pub replaced : List ℕ → List Rule → List Rule → List Rule
replaced remove add rules = without_ids remove rules ++ add

-- disables first, then enables, so that a ruleset of both lists ends enabled
abbrev pub switched : List (List ℕ) → List (List ℕ) → RuleSet → RuleSet
switched disable enable set =
    record set { enabled = has_text enable set.id || (set.enabled && not (has_text disable set.id)) }

-- whether the rule of this id is off after the switching
abbrev pub is_off_after : List ℤ → List ℤ → List ℕ → ℕ → Bool
is_off_after disable enable disabled id = (has_number disabled id || has_whole disable id) && not (has_whole enable id)

-- the ruleset once rules of these ids are off and on; the ids of those that are off stand in the order of the rules
abbrev pub with_rules_switched : List ℤ → List ℤ → RuleSet → RuleSet
with_rules_switched disable enable set =
    record set { disabled = filter (is_off_after disable enable set.disabled) (map (λ rule. rule.id) set.rules) }

abbrev pub has_set_id : List ℕ → RuleSet → Bool
has_set_id id set = bytes_eq set.id id

abbrev pub has_name : List ℕ → Extension → Bool
has_name name extension = bytes_eq extension.name name

-- an extension once it is updated, where it is neither installed nor uninstalled
abbrev pub updated : Update → Extension → Extension
updated (dynamic name remove add) extension = record extension { dynamic = replaced remove add extension.dynamic }
updated (session name remove add) extension = record extension { session = replaced remove add extension.session }
updated (rulesets name disable enable) extension = record extension { sets = map (switched disable enable) extension.sets }
updated (static name set disable enable) extension =
    record extension { sets = with_first (has_set_id set) (with_rules_switched disable enable) extension.sets }
updated (install new) extension = extension
updated (uninstall name) extension = extension

-- the extensions after the update: an installed one is the newest
abbrev pub extensions_after : Update → List Extension → List Extension
extensions_after (install new) extensions = extensions ++ installed new ∷ []
extensions_after (uninstall name) extensions = filter (λ extension. not (has_name name extension)) extensions
extensions_after update extensions = with_first (has_name (name_in update)) (updated update) extensions

-- the change that the update makes; the count of updates stays
abbrev pub changed : State → Update → State
changed state update = record state { extensions = extensions_after update state.extensions }

-- one more update
abbrev pub counted : State → State
counted state = record state { count = state.count + 1 }
