-- When an update is refused. The order of the tests, the tests themselves and their numbers are this engine's own;
-- nothing is claimed of Chrome's limits.
use Rattle.std.specs.Prelude.{ℕ, ◌-◌, List, [], ◌∷◌, ◌++◌, length, filter, find, sum_by, count_by, Bool, true, false, not, nat_lt, nat_le, ◌==◌, ℤ, pos, Option, Some, None, is_some, option_map, option_and_then}
use Rattle.std.specs.List.{list_any}
use Rattle.std.specs.Ordering.{int_eq}
use Rattle.rule_spec.specs.Rule.{Rule, is_unsafe}
use Rattle.rule_spec.specs.State.{RuleSet, Extension, State}
use Rattle.update_spec.specs.declared.refusal.Refusal.{Refusal}
use Rattle.update_spec.specs.declared.refusal.Refusal.TheVariants.{NoExtension, ExtensionThere, NoRuleset, DuplicateId, NoStaticRule, BothLists, ExtensionLimit, RulesetLimit, RulesLimit, EnabledLimit, PoolLimit, DynamicLimit, UnsafeLimit, SessionLimit, RegexLimit, DisabledLimit, TooManyUpdates}
use Rattle.update_spec.specs.Update.{Update, dynamic, session, rulesets, static, install, uninstall, installed, name_in, without_ids, has_set_id, has_name, updated, changed}

-- ---- what is counted

abbrev pub enabled_sets : List RuleSet → List RuleSet
enabled_sets sets = filter (λ set. set.enabled) sets

-- rules that are switched off one by one count too
abbrev pub count_rules : List RuleSet → ℕ
count_rules sets = sum_by (λ set. length set.rules) sets

abbrev pub uses_regex : Rule → Bool
uses_regex rule = is_some rule.condition.regex_filter

abbrev pub count_patterns : List RuleSet → ℕ
count_patterns sets = sum_by (λ set. count_by uses_regex set.rules) sets

abbrev pub count_unsafe : List Rule → ℕ
count_unsafe rules = count_by (λ rule. is_unsafe rule.action) rules

-- the rules that are switched off one by one
abbrev pub count_disabled : List RuleSet → ℕ
count_disabled sets = sum_by (λ set. length set.disabled) sets

-- the rules that an extension may enable without drawing on the pool that all share
abbrev pub own_share : ℕ
own_share = 30000

-- what an extension takes from the pool
abbrev pub drawn_by : Extension → ℕ
drawn_by extension = count_rules (enabled_sets extension.sets) - own_share

abbrev pub drawn : List Extension → ℕ
drawn extensions = sum_by drawn_by extensions

abbrev pub max_updates : ℕ
max_updates = 1000000

-- ---- tests

abbrev pub refused_if : Bool → Refusal → Option Refusal
refused_if true refusal = Some refusal
refused_if false refusal = None

-- refused with the count where that is more than there may be
abbrev pub limited : ℕ → (ℕ → Refusal) → ℕ → Option Refusal
limited most refusal count = refused_if (nat_lt most count) (refusal count)

-- refused with the first that is so
abbrev pub first_refused : {X : Type 0} → (X → Bool) → (X → Refusal) → List X → Option Refusal
first_refused is_so refusal xs = option_map refusal (find is_so xs)

abbrev pub named : List ℕ → List Extension → Option Extension
named name extensions = find (has_name name) extensions

-- the test of the extension that is updated, which passes where there is none
abbrev pub of_extension : State → Update → (Extension → Option Refusal) → Option Refusal
of_extension state update test = option_and_then test (named (name_in update) state.extensions)

abbrev pub of_set : List ℕ → Extension → (RuleSet → Option Refusal) → Option Refusal
of_set id extension test = option_and_then test (find (has_set_id id) extension.sets)

-- ---- names and ids

abbrev pub is_there : State → Update → Bool
is_there state update = list_any (has_name (name_in update)) state.extensions

-- but for an installation, there is such an extension
abbrev pub no_extension : State → Update → Option Refusal
no_extension state (install new) = None
no_extension state update = refused_if (not (is_there state update)) (NoExtension (name_in update))

-- for an installation, there is none
abbrev pub extension_there : State → Update → Option Refusal
extension_there state (install new) = refused_if (is_there state (install new)) (ExtensionThere new.name)
extension_there state update = None

abbrev pub lacks_set : Extension → List ℕ → Bool
lacks_set extension id = not (list_any (has_set_id id) extension.sets)

-- each ruleset is there, of those to disable first
abbrev pub no_ruleset : State → Update → Option Refusal
no_ruleset state (rulesets name disable enable) =
    of_extension state (rulesets name disable enable)
    (λ extension. first_refused (lacks_set extension) NoRuleset (disable ++ enable))
no_ruleset state (static name set disable enable) =
    of_extension state (static name set disable enable)
    (λ extension. refused_if (lacks_set extension set) (NoRuleset set))
no_ruleset state update = None

abbrev pub has_id : List Rule → ℕ → Bool
has_id rules id = list_any (λ rule. id == rule.id) rules

-- the first added rule whose id one has that stays
abbrev pub first_duplicate : List ℕ → List Rule → List Rule → Option Refusal
first_duplicate remove add rules =
    first_refused (λ (rule : Rule). has_id (without_ids remove rules) rule.id) (λ rule. DuplicateId rule.id) add

abbrev pub duplicate_id : State → Update → Option Refusal
duplicate_id state (dynamic name remove add) =
    of_extension state (dynamic name remove add) (λ extension. first_duplicate remove add extension.dynamic)
duplicate_id state (session name remove add) =
    of_extension state (session name remove add) (λ extension. first_duplicate remove add extension.session)
duplicate_id state update = None

abbrev pub lacks_rule : RuleSet → ℤ → Bool
lacks_rule set id = not (list_any (λ rule. int_eq id (pos rule.id)) set.rules)

-- each rule is there, of those to disable first
abbrev pub no_static_rule : State → Update → Option Refusal
no_static_rule state (static name set disable enable) =
    of_extension state (static name set disable enable)
    (λ extension. of_set set extension (λ set. first_refused (lacks_rule set) NoStaticRule (disable ++ enable)))
no_static_rule state update = None

-- no rule is to be disabled and enabled
abbrev pub both_lists : State → Update → Option Refusal
both_lists state (static name set disable enable) =
    first_refused (λ id. list_any (λ other. int_eq id other) enable) BothLists disable
both_lists state update = None

-- ---- limits, on the state as it would be

abbrev pub extension_limit : State → Update → Option Refusal
extension_limit state (install new) =
    limited 16 ExtensionLimit (length (changed state (install new)).extensions)
extension_limit state update = None

abbrev pub ruleset_limit : State → Update → Option Refusal
ruleset_limit state (install new) = limited 100 RulesetLimit (length new.sets)
ruleset_limit state update = None

abbrev pub rules_limit : State → Update → Option Refusal
rules_limit state (install new) = limited 330000 RulesLimit (count_rules (installed new).sets)
rules_limit state update = None

-- a test of the extension as the update would leave it
abbrev pub of_updated : State → Update → (Extension → Option Refusal) → Option Refusal
of_updated state (install new) test = test (installed new)
of_updated state update test = of_extension state update (λ extension. test (updated update extension))

abbrev pub enabled_test : Extension → Option Refusal
enabled_test extension = limited 50 EnabledLimit (length (enabled_sets extension.sets))

abbrev pub enabled_limit : State → Update → Option Refusal
enabled_limit state (install new) = of_updated state (install new) enabled_test
enabled_limit state (rulesets name disable enable) = of_updated state (rulesets name disable enable) enabled_test
enabled_limit state update = None

abbrev pub pool_test : State → Option Refusal
pool_test state = limited 300000 PoolLimit (drawn state.extensions)

abbrev pub pool_limit : State → Update → Option Refusal
pool_limit state (install new) = pool_test (changed state (install new))
pool_limit state (rulesets name disable enable) = pool_test (changed state (rulesets name disable enable))
pool_limit state update = None

abbrev pub dynamic_limit : State → Update → Option Refusal
dynamic_limit state (dynamic name remove add) =
    of_updated state (dynamic name remove add) (λ extension. limited 30000 DynamicLimit (length extension.dynamic))
dynamic_limit state update = None

abbrev pub unsafe_limit : State → Update → Option Refusal
unsafe_limit state (dynamic name remove add) =
    of_updated state (dynamic name remove add) (λ extension. limited 5000 UnsafeLimit (count_unsafe extension.dynamic))
unsafe_limit state update = None

abbrev pub session_limit : State → Update → Option Refusal
session_limit state (session name remove add) =
    of_updated state (session name remove add) (λ extension. limited 5000 SessionLimit (length extension.session))
session_limit state update = None

-- the rules with a `regexFilter` among those that the update may change
abbrev pub patterns_in : Update → Extension → ℕ
patterns_in (dynamic name remove add) extension = count_by uses_regex extension.dynamic
patterns_in (session name remove add) extension = count_by uses_regex extension.session
patterns_in (rulesets name disable enable) extension = count_patterns (enabled_sets extension.sets)
patterns_in (static name set disable enable) extension = 0
patterns_in (install new) extension = count_patterns (enabled_sets extension.sets)
patterns_in (uninstall name) extension = 0

abbrev pub regex_limit : State → Update → Option Refusal
regex_limit state update =
    of_updated state update (λ extension. limited 1000 RegexLimit (patterns_in update extension))

abbrev pub disabled_limit : State → Update → Option Refusal
disabled_limit state (static name set disable enable) =
    of_updated state (static name set disable enable)
    (λ extension. limited 5000 DisabledLimit (count_disabled extension.sets))
disabled_limit state update = None

abbrev pub too_many_updates : State → Option Refusal
too_many_updates state = refused_if (nat_le max_updates state.count) (TooManyUpdates max_updates)

-- ---- all of them

-- in the order in which they are made
abbrev pub tests_of : State → Update → List (Option Refusal)
tests_of state update =
    no_extension state update
    ∷ extension_there state update
    ∷ no_ruleset state update
    ∷ duplicate_id state update
    ∷ no_static_rule state update
    ∷ both_lists state update
    ∷ extension_limit state update
    ∷ ruleset_limit state update
    ∷ rules_limit state update
    ∷ enabled_limit state update
    ∷ pool_limit state update
    ∷ dynamic_limit state update
    ∷ unsafe_limit state update
    ∷ session_limit state update
    ∷ regex_limit state update
    ∷ disabled_limit state update
    ∷ too_many_updates state
    ∷ []

-- the first that refuses
abbrev pub first_refusal : List (Option Refusal) → Option Refusal
first_refusal [] = None
first_refusal (None ∷ tests) = first_refusal tests
first_refusal (Some refusal ∷ tests) = Some refusal

-- why the update is refused, if it is
unfoldable pub judge_update : State → Update → Option Refusal
judge_update state update = first_refusal (tests_of state update)
