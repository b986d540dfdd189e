-- Rules from JSON: Chrome's reference of declarativeNetRequest, `Rule`, with the limits of this engine. The first
-- test that fails names the refusal.
use Rattle.std.specs.Prelude.{◌≡◌, ◌⊎◌, ℕ, min, List, [], ◌∷◌, ◌++◌, length, codes, map, filter, Bool, true, false, not, ◌==◌, ◌&&◌, ◌||◌, Option, Some, None, IsSome, is_some, is_none, unwrap_or, option_map, option_and_then, Result, Ok, Err, if◌then◌else◌}
use Rattle.std.specs.Option.{option_map_or}
use Rattle.std.specs.Result.{result_unwrap_or, result_err}
use Rattle.std.specs.List.{list_all, list_any}
use Rattle.std.specs.Str.{bytes_eq}
use Rattle.serde_json.specs.Data.{Data, null, Items, no_items, item}
use Rattle.serde_json.specs.Find.{get, as_array, as_object}
use Rattle.dnr_base.specs.declared.kind.Kind.{Kind}
use Rattle.dnr_base.specs.Kind.{all_kinds, default_kinds, has_kind}
use Rattle.dnr_spec.specs.declared.domain_refusal.DomainRefusal.{DomainRefusal}
use Rattle.dnr_spec.specs.UrlFilter.{pattern_of}
use Rattle.dnr_spec.specs.Patterns.{groups_of}
use Rattle.dnr_spec.specs.Domains.{domains_of}
use Rattle.dnr_spec.specs.HeaderTests.{HeaderTest, is_header_test, in_lower_case}
use Rattle.rule_spec.specs.declared.rule_kind.RuleKind.{RuleKind}
use Rattle.rule_spec.specs.declared.rule_kind.RuleKind.TheVariants.{Static, Dynamic, Session}
use Rattle.rule_spec.specs.declared.rule_path.RulePath.{RulePath}
use Rattle.rule_spec.specs.declared.rule_path.RulePath.TheVariants as path
use Rattle.rule_spec.specs.declared.rule_refusal.RuleRefusal.{RuleRefusal}
use Rattle.rule_spec.specs.declared.rule_refusal.RuleRefusal.TheVariants.{NotObject, BadId, DuplicateId, BadPriority, BadField, BothFilters, BadUrlFilter, BadRegex, BadDomain, EmptyList, BothTypeLists, AllowAllTypes, BadHeaderTest, TabsNotSession, HostFault}
use Rattle.rule_spec.specs.declared.placed_refusal.PlacedRefusal.{PlacedRefusal}
use Rattle.rule_spec.specs.Rule.{Condition, block, Rule}
use Rattle.rule_spec.specs.IsRule.{is_number, is_regex_text, is_frame_kind, IsRule}
use Rattle.json_spec.specs.Json.{whole_number}
use Rattle.json_spec.specs.RuleFields.{first_refusal, refused_if, refusal_in, unless_refused, Fields, fields_in}
use Rattle.json_spec.specs.RuleAction.{type_of, action_in}

-- ---- the condition

-- the refusal of a urlFilter that is given and none
abbrev pub url_filter_test : Option (List ℕ) → Option RuleRefusal
url_filter_test None = None
url_filter_test (Some text) = option_map BadUrlFilter (result_err (pattern_of text))

-- of a regexFilter that is given and empty, too long or not ASCII
abbrev pub regex_text_test : Option (List ℕ) → Option RuleRefusal
regex_text_test None = None
regex_text_test (Some text) = refused_if (not (is_regex_text text)) BadRegex

-- of one in which the grammar reads no pattern
abbrev pub pattern_test : Option (List ℕ) → Option RuleRefusal
pattern_test None = None
pattern_test (Some text) = refused_if (is_none (groups_of text)) BadRegex

abbrev pub given_domains : RulePath → Result (List (List ℕ)) DomainRefusal → Result (Option (List (List ℕ))) RuleRefusal
given_domains field (Ok domains) = Ok (Some domains)
given_domains field (Err refusal) = Err (BadDomain field)

abbrev pub domains_from : RulePath → Option (List (List ℕ)) → Result (Option (List (List ℕ))) RuleRefusal
domains_from field None = Ok None
domains_from field (Some texts) = given_domains field (domains_of texts)

-- a list of domains, in lower case
unfoldable pub domains_in : RulePath → Option (List (List ℕ)) → Result (Option (List (List ℕ))) RuleRefusal
domains_in field texts = domains_from field texts

-- of a list that is given and has no entry
abbrev pub empty_test : {X : Type 0} → RulePath → Option (List X) → Option RuleRefusal
empty_test field None = None
empty_test field (Some list) = refused_if (length list == 0) (EmptyList field)

-- a test lists values, and none
abbrev pub lists_no_value : HeaderTest → Bool
lists_no_value test = option_map_or (λ patterns. length patterns == 0) test.values false

-- of tests of which one does so
abbrev pub empty_values_test : RulePath → Option (List HeaderTest) → Option RuleRefusal
empty_values_test field None = None
empty_values_test field (Some tests) = refused_if (list_any lists_no_value tests) (EmptyList field)

-- of tests of which one has a name or a pattern that is none
abbrev pub header_test : RulePath → Option (List HeaderTest) → Option RuleRefusal
header_test field None = None
header_test field (Some tests) = refused_if (not (list_all is_header_test tests)) (BadHeaderTest field)

-- what is tested of the filters before the pattern of the regexFilter
abbrev pub tests_before_pattern : Fields → List (Option RuleRefusal)
tests_before_pattern f =
    refused_if (is_some f.url_filter && is_some f.regex_filter) BothFilters
    ∷ url_filter_test f.url_filter
    ∷ regex_text_test f.regex_filter
    ∷ []

abbrev pub filter_tests : Fields → List (Option RuleRefusal)
filter_tests f = tests_before_pattern f ++ pattern_test f.regex_filter ∷ []

-- the filters pass, or the first test that fails
unfoldable pub filters_in : Fields → Result (Unit {0}) RuleRefusal
filters_in f = unless_refused (first_refusal (filter_tests f)) tt

abbrev pub domain_tests : Fields → List (Option RuleRefusal)
domain_tests f =
    refusal_in (domains_in path.InitiatorDomains f.initiators)
    ∷ refusal_in (domains_in path.ExcludedInitiatorDomains f.not_initiators)
    ∷ refusal_in (domains_in path.Domains f.old_initiators)
    ∷ refusal_in (domains_in path.ExcludedDomains f.old_not_initiators)
    ∷ refusal_in (domains_in path.RequestDomains f.hosts)
    ∷ refusal_in (domains_in path.ExcludedRequestDomains f.not_hosts)
    ∷ []

-- the first of two lists that is given
abbrev pub either : {X : Type 0} → Option X → Option X → Option X
either None other = other
either (Some x) other = Some x

abbrev pub list_of : {X : Type 0} → Result (Option X) RuleRefusal → Option X
list_of reading = result_unwrap_or reading None

-- the domain lists of a condition
pub record DomainLists : Type 0 where
  pub initiators : Option (List (List ℕ))
  pub not_initiators : List (List ℕ)
  pub hosts : Option (List (List ℕ))
  pub not_hosts : List (List ℕ)

abbrev pub domain_lists_of : Fields → DomainLists
domain_lists_of f = record {
  initiators = either (list_of (domains_in path.InitiatorDomains f.initiators)) (list_of (domains_in path.Domains f.old_initiators));
  not_initiators =
      unwrap_or (either (list_of (domains_in path.ExcludedInitiatorDomains f.not_initiators)) (list_of (domains_in path.ExcludedDomains f.old_not_initiators))) [];
  hosts = list_of (domains_in path.RequestDomains f.hosts);
  not_hosts = unwrap_or (list_of (domains_in path.ExcludedRequestDomains f.not_hosts)) [];
}

-- the domain lists, or the first that is at fault
unfoldable pub domain_lists_in : Fields → Result DomainLists RuleRefusal
domain_lists_in f = unless_refused (first_refusal (domain_tests f)) (domain_lists_of f)

abbrev pub list_tests : Fields → List (Option RuleRefusal)
list_tests f =
    empty_test path.InitiatorDomains f.initiators
    ∷ empty_test path.Domains f.old_initiators
    ∷ empty_test path.RequestDomains f.hosts
    ∷ empty_test path.ResourceTypes f.kinds
    ∷ empty_test path.RequestMethods f.methods
    ∷ empty_test path.TabIds f.tabs
    ∷ empty_test path.ResponseHeaders f.header_tests
    ∷ empty_values_test path.ResponseHeaderValues f.header_tests
    ∷ empty_values_test path.ExcludedResponseHeaderValues f.not_header_tests
    ∷ refused_if (is_some f.kinds && is_some f.not_kinds) BothTypeLists
    ∷ []

-- no list is given and empty, and not both lists of types are given
unfoldable pub lists_in : Fields → Result (Unit {0}) RuleRefusal
lists_in f = unless_refused (first_refusal (list_tests f)) tt

-- the types on which the rule holds: those listed, or all but the excluded ones, or all but `main_frame`
abbrev pub kinds_from : Option (List Kind) → Option (List Kind) → List Kind
kinds_from (Some kinds) excluded = kinds
kinds_from None (Some excluded) = filter (λ kind. not (has_kind excluded kind)) all_kinds
kinds_from None None = default_kinds

abbrev pub condition_of : Fields → DomainLists → Condition
condition_of f lists = record {
  url_filter = f.url_filter;
  regex_filter = f.regex_filter;
  case_sensitive = unwrap_or f.case_sensitive false;
  initiators = lists.initiators;
  not_initiators = lists.not_initiators;
  hosts = lists.hosts;
  not_hosts = lists.not_hosts;
  third_party = f.third_party;
  kinds = kinds_from f.kinds f.not_kinds;
  methods = f.methods;
  not_methods = unwrap_or f.not_methods [];
  tabs = f.tabs;
  not_tabs = unwrap_or f.not_tabs [];
  header_tests = option_map (map in_lower_case) f.header_tests;
  not_header_tests = map in_lower_case (unwrap_or f.not_header_tests []);
}

-- ---- the rule

abbrev pub in_range : ℕ → Option ℕ
in_range n = if is_number n then Some n else None

abbrev pub as_id : Data → Option ℕ
as_id d = option_and_then in_range (whole_number d)

abbrev pub id_of : Data → Option ℕ
id_of d = option_and_then as_id (get (codes "id") d)

-- 1 where there is none
abbrev pub priority_from : Option Data → Option ℕ
priority_from None = Some 1
priority_from (Some d) = as_id d

abbrev pub priority_of : Data → Option ℕ
priority_of d = priority_from (get (codes "priority") d)

abbrev pub condition_at : Data → Data
condition_at d = unwrap_or (get (codes "condition") d) null

-- what stands for fields that are refused
abbrev pub no_fields : Fields
no_fields = record {
  url_filter = None;
  regex_filter = None;
  case_sensitive = None;
  initiators = None;
  not_initiators = None;
  old_initiators = None;
  old_not_initiators = None;
  hosts = None;
  not_hosts = None;
  third_party = None;
  kinds = None;
  not_kinds = None;
  methods = None;
  not_methods = None;
  tabs = None;
  not_tabs = None;
  header_tests = None;
  not_header_tests = None;
}

abbrev pub fields_at : Data → Fields
fields_at d = result_unwrap_or (fields_in (condition_at d)) no_fields

abbrev pub no_lists : DomainLists
no_lists = record { initiators = None; not_initiators = []; hosts = None; not_hosts = [] }

abbrev pub lists_at : Data → DomainLists
lists_at d = result_unwrap_or (domain_lists_in (fields_at d)) no_lists

-- the count of groups of the regexFilter, if there is one
abbrev pub groups_at : Data → Option ℕ
groups_at d = option_map_or groups_of (fields_at d).regex_filter None

-- `resourceTypes` is given, with frames alone
abbrev pub gives_frames : Option (List Kind) → Bool
gives_frames None = false
gives_frames (Some kinds) = list_all is_frame_kind kinds

abbrev pub is_allow_all : Option (List ℕ) → Bool
is_allow_all name = option_map_or (λ name. bytes_eq name (codes "allowAllRequests")) name false

abbrev pub may_name_tabs : RuleKind → Bool
may_name_tabs Static = false
may_name_tabs Dynamic = false
may_name_tabs Session = true

-- the numbers of a rule
pub record Numbers : Type 0 where
  pub id : ℕ
  pub priority : ℕ

abbrev pub number_tests : (ℕ → Bool) → Data → List (Option RuleRefusal)
number_tests is_taken d =
    refused_if (is_none (as_object d)) NotObject
    ∷ refused_if (is_none (id_of d)) BadId
    ∷ refused_if (option_map_or is_taken (id_of d) false) DuplicateId
    ∷ refused_if (is_none (priority_of d)) BadPriority
    ∷ refused_if (is_none (as_object (condition_at d))) (BadField path.Condition)
    ∷ []

abbrev pub numbers_of : Data → Numbers
numbers_of d = record { id = unwrap_or (id_of d) 0; priority = unwrap_or (priority_of d) 0 }

-- a rule is an object with an id that is not taken, a priority and a condition
unfoldable pub numbers_in : (ℕ → Bool) → Data → Result Numbers RuleRefusal
numbers_in is_taken d = unless_refused (first_refusal (number_tests is_taken d)) (numbers_of d)

abbrev pub no_numbers : Numbers
no_numbers = record { id = 0; priority = 0 }

abbrev pub numbers_at : (ℕ → Bool) → Data → Numbers
numbers_at is_taken d = result_unwrap_or (numbers_in is_taken d) no_numbers

-- `allowAllRequests` needs frames
unfoldable pub frames_in : Option Data → Fields → Result (Unit {0}) RuleRefusal
frames_in action f = unless_refused (refused_if (is_allow_all (type_of action) && not (gives_frames f.kinds)) AllowAllTypes) tt

-- the tests of response headers, in both lists
abbrev pub header_test_tests : Fields → List (Option RuleRefusal)
header_test_tests f =
    header_test path.ResponseHeaders f.header_tests
    ∷ header_test path.ExcludedResponseHeaders f.not_header_tests
    ∷ []

unfoldable pub header_tests_in : Fields → Result (Unit {0}) RuleRefusal
header_tests_in f = unless_refused (first_refusal (header_test_tests f)) tt

-- tabs need a session rule
unfoldable pub tabs_in : RuleKind → Fields → Result (Unit {0}) RuleRefusal
tabs_in kind f = unless_refused (refused_if (not (may_name_tabs kind) && (is_some f.tabs || is_some f.not_tabs)) TabsNotSession) tt

-- all tests of a rule, where these ids are taken, in their order:
-- NotObject, BadId, DuplicateId, BadPriority and a condition that is no object;
-- BadField;
-- BothFilters, BadUrlFilter, BadRegex;
-- BadDomain;
-- EmptyList, BothTypeLists;
-- AllowAllTypes;
-- BadHeaderTest;
-- TabsNotSession;
-- BadAction, BadRedirect, BadTransform, BadHeader
abbrev pub rule_tests : RuleKind → (ℕ → Bool) → Data → List (Option RuleRefusal)
rule_tests kind is_taken d =
    refusal_in (numbers_in is_taken d)
    ∷ refusal_in (fields_in (condition_at d))
    ∷ refusal_in (filters_in (fields_at d))
    ∷ refusal_in (domain_lists_in (fields_at d))
    ∷ refusal_in (lists_in (fields_at d))
    ∷ refusal_in (frames_in (get (codes "action") d) (fields_at d))
    ∷ refusal_in (header_tests_in (fields_at d))
    ∷ refusal_in (tabs_in kind (fields_at d))
    ∷ refusal_in (action_in (groups_at d) (get (codes "action") d))
    ∷ []

-- the rule of an object that passes them
abbrev pub rule_of : (ℕ → Bool) → Data → Rule
rule_of is_taken d = record {
  id = (numbers_at is_taken d).id;
  priority = (numbers_at is_taken d).priority;
  condition = condition_of (fields_at d) (lists_at d);
  action = result_unwrap_or (action_in (groups_at d) (get (codes "action") d)) block;
}

-- the rule, where these ids are taken, or the first refusal
unfoldable pub rule_in : RuleKind → (ℕ → Bool) → Data → Result Rule RuleRefusal
rule_in kind is_taken d = unless_refused (first_refusal (rule_tests kind is_taken d)) (rule_of is_taken d)

-- a rule alone
abbrev pub read_rule : RuleKind → Data → Result Rule RuleRefusal
read_rule kind d = rule_in kind (λ id. false) d

-- ---- lists of rules

-- places stand still at this one
abbrev pub last_place : ℕ
last_place = 4294967295

abbrev pub placed : ℕ → Data → RuleRefusal → PlacedRefusal
placed place d cause = record { place = min place last_place; id = id_of d; cause = cause; set = None }

-- a rule of this id is among these
abbrev pub has_id : List Rule → ℕ → Bool
has_id rules id = list_any (λ rule. rule.id == id) rules

-- goes on with the rule, or stops at its refusal
abbrev pub read_next : (Rule → Result (List Rule) PlacedRefusal) → ℕ → Data → Result Rule RuleRefusal → Result (List Rule) PlacedRefusal
read_next go_on place d (Ok rule) = go_on rule
read_next go_on place d (Err cause) = Err (placed place d cause)

-- the rules of a list, behind those that were read, or the first that is refused
abbrev pub read_from : RuleKind → List Rule → Items → Result (List Rule) PlacedRefusal
read_from kind earlier no_items = Ok earlier
read_from kind earlier (item d items) =
    read_next (λ rule. read_from kind (earlier ++ rule ∷ []) items) (length earlier) d (rule_in kind (has_id earlier) d)

abbrev pub no_list : PlacedRefusal
no_list = record { place = 0; id = None; cause = NotObject; set = None }

abbrev pub read_items : RuleKind → Option Items → Result (List Rule) PlacedRefusal
read_items kind None = Err no_list
read_items kind (Some items) = read_from kind [] items

unfoldable pub read_rules : RuleKind → Data → Result (List Rule) PlacedRefusal
read_rules kind d = read_items kind (as_array d)

-- ---- where a pattern host may fail

-- the filters have a regexFilter, and nothing of them is refused that is tested before its pattern
abbrev pub IsAtPattern : Fields → Type 0
IsAtPattern f = (first_refusal (tests_before_pattern f) ≡ None) × IsSome f.regex_filter

-- the same of a whole rule
pub record IsRuleAtPattern (is_taken : ℕ → Bool) (d : Data) : Type 0 where
  pub numbers : refusal_in (numbers_in is_taken d) ≡ None
  pub fields : refusal_in (fields_in (condition_at d)) ≡ None
  pub filters : IsAtPattern (fields_at d)

-- the refusal names a rule of the list that is at its pattern, behind rules that were read
abbrev pub StopsAtPattern : RuleKind → List Rule → Items → PlacedRefusal → Type 0
StopsAtPattern kind earlier no_items refusal = ⊥
StopsAtPattern kind earlier (item d items) refusal =
    ((refusal ≡ placed (length earlier) d HostFault) × IsRuleAtPattern (has_id earlier) d)
    ⊎ ((rule : Rule) × (rule_in kind (has_id earlier) d ≡ Ok rule) × StopsAtPattern kind (earlier ++ rule ∷ []) items refusal)

-- ---- laws

-- a rule that is read keeps what every rule keeps
abbrev pub RulesKeepTheirForm : Type 0
RulesKeepTheirForm = (kind : RuleKind) (is_taken : ℕ → Bool) (d : Data) (rule : Rule) → rule_in kind is_taken d ≡ Ok rule → IsRule rule
