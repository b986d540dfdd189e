-- The tests of an update whose extension is there, without those that pass for every update of its kind.
use Rattle.std.specs.Prelude.{ℕ, ℤ, List, [], ◌∷◌, ◌++◌, length, map, count_by, Option, nat_le}
use Rattle.std.specs.List.{list_any}
use Rattle.std.specs.Ordering.{int_eq}
use Rattle.rule_spec.specs.Rule.{Rule}
use Rattle.rule_spec.specs.State.{RuleSet, Extension}
use Rattle.update_spec.specs.declared.refusal.Refusal.{Refusal}
use Rattle.update_spec.specs.declared.refusal.Refusal.TheVariants.{ExtensionThere, NoRuleset, DuplicateId, NoStaticRule, BothLists, ExtensionLimit, RulesetLimit, RulesLimit, EnabledLimit, PoolLimit, DynamicLimit, UnsafeLimit, SessionLimit, RegexLimit, DisabledLimit, TooManyUpdates}
use Rattle.update_spec.specs.Update.{NewExtension, installed, replaced, has_name, has_set_id, switched, with_first, with_rules_switched}
use Rattle.ruleset_store.specs.Installed.{put_first}
use Rattle.update_spec.specs.Judge.{limited, refused_if, first_refused, uses_regex, count_unsafe, count_rules, count_patterns, count_disabled, enabled_sets, drawn, max_updates, has_id, first_duplicate, of_set, lacks_set, lacks_rule}

-- the last test of each update
abbrev pub count_test : ℕ → Option Refusal
count_test count = refused_if (nat_le max_updates count) (TooManyUpdates max_updates)

-- the first of these rules whose id one of the others has
abbrev pub id_test : List Rule → List Rule → Option Refusal
id_test others add = first_refused (λ (rule : Rule). has_id others rule.id) (λ rule. DuplicateId rule.id) add

abbrev pub dynamic_limits : ℕ → List Rule → List (Option Refusal)
dynamic_limits count rules =
    limited 30000 DynamicLimit (length rules)
    ∷ limited 5000 UnsafeLimit (count_unsafe rules)
    ∷ limited 1000 RegexLimit (count_by uses_regex rules)
    ∷ count_test count
    ∷ []

abbrev pub dynamic_tests : ℕ → List ℕ → List Rule → List Rule → List (Option Refusal)
dynamic_tests count remove add rules =
    first_duplicate remove add rules ∷ dynamic_limits count (replaced remove add rules)

abbrev pub session_limits : ℕ → List Rule → List (Option Refusal)
session_limits count rules =
    limited 5000 SessionLimit (length rules) ∷ limited 1000 RegexLimit (count_by uses_regex rules) ∷ count_test count ∷ []

abbrev pub session_tests : ℕ → List ℕ → List Rule → List Rule → List (Option Refusal)
session_tests count remove add rules =
    first_duplicate remove add rules ∷ session_limits count (replaced remove add rules)

-- the limits of rulesets, once they are switched; `extensions` are all that there are then
abbrev pub set_limits : ℕ → List RuleSet → List Extension → List (Option Refusal)
set_limits count sets extensions =
    limited 50 EnabledLimit (length (enabled_sets sets))
    ∷ limited 300000 PoolLimit (drawn extensions)
    ∷ limited 1000 RegexLimit (count_patterns (enabled_sets sets))
    ∷ count_test count
    ∷ []

abbrev pub both_test : List ℤ → List ℤ → Option Refusal
both_test disable enable = first_refused (λ id. list_any (λ other. int_eq id other) enable) BothLists disable

abbrev pub disabled_limits : ℕ → List RuleSet → List (Option Refusal)
disabled_limits count sets = limited 5000 DisabledLimit (count_disabled sets) ∷ count_test count ∷ []

-- of an extension whose rulesets are switched, among all that there are then
abbrev pub ruleset_tests : ℕ → List (List ℕ) → List (List ℕ) → Extension → List Extension → List (Option Refusal)
ruleset_tests count disable enable extension extensions =
    first_refused (lacks_set extension) NoRuleset (disable ++ enable)
    ∷ set_limits count (map (switched disable enable) extension.sets) extensions

-- of a ruleset whose rules are switched
abbrev pub static_tests : ℕ → List ℕ → List ℤ → List ℤ → Extension → List (Option Refusal)
static_tests count id disable enable extension =
    refused_if (lacks_set extension id) (NoRuleset id)
    ∷ of_set id extension (λ set. first_refused (lacks_rule set) NoStaticRule (disable ++ enable))
    ∷ both_test disable enable
    ∷ disabled_limits count (with_first (has_set_id id) (with_rules_switched disable enable) extension.sets)

-- the rulesets with this one, once rules of it are switched, in place of the first of its id
abbrev pub sets_after : List ℕ → List ℤ → List ℤ → RuleSet → Extension → List RuleSet
sets_after id disable enable set extension = put_first (has_set_id id) (with_rules_switched disable enable set) extension.sets

-- of a ruleset of the extension whose rules are switched, once it is found
abbrev pub switched_tests : ℕ → List ℕ → List ℤ → List ℤ → RuleSet → Extension → List (Option Refusal)
switched_tests count id disable enable set extension =
    first_refused (lacks_rule set) NoStaticRule (disable ++ enable)
    ∷ both_test disable enable
    ∷ disabled_limits count (sets_after id disable enable set extension)

-- of an extension that is installed, among all that there are then
abbrev pub install_tests : ℕ → NewExtension → List Extension → List (Option Refusal)
install_tests count new extensions =
    refused_if (list_any (has_name new.name) extensions) (ExtensionThere new.name)
    ∷ limited 16 ExtensionLimit (length (extensions ++ installed new ∷ []))
    ∷ limited 100 RulesetLimit (length new.sets)
    ∷ limited 330000 RulesLimit (count_rules (installed new).sets)
    ∷ set_limits count (installed new).sets (extensions ++ installed new ∷ [])
