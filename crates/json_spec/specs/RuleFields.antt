-- The fields of a rule's condition as they stand in a JSON object: Chrome's reference of declarativeNetRequest,
-- `RuleCondition`. Keys that are not known are ignored.
use Rattle.std.specs.Prelude.{ℕ, ℤ, List, [], ◌∷◌, ◌++◌, codes, filter, fold, Bool, true, false, Option, Some, None, option_map, option_and_then, unwrap_or, Result, Ok, Err, if◌then◌else◌}
use Rattle.std.specs.Result.{result_unwrap_or}
use Rattle.std.specs.Str.{bytes_eq}
use Rattle.serde_json.specs.Data.{Data, Items, no_items, item}
use Rattle.serde_json.specs.Find.{get, as_str, as_bool, as_number, as_i64, as_array}
use Rattle.dnr_base.specs.declared.kind.Kind.{Kind}
use Rattle.dnr_base.specs.declared.method.Method.{Method}
use Rattle.dnr_base.specs.Kind.{all_kinds, kind_named, has_kind}
use Rattle.dnr_base.specs.Method.{all_methods, method_named, has_method}
use Rattle.dnr_spec.specs.HeaderTests.{HeaderTest}
use Rattle.rule_spec.specs.declared.rule_path.RulePath.{RulePath}
use Rattle.rule_spec.specs.declared.rule_path.RulePath.TheVariants as path
use Rattle.rule_spec.specs.declared.rule_refusal.RuleRefusal.{RuleRefusal}
use Rattle.rule_spec.specs.declared.rule_refusal.RuleRefusal.TheVariants.{BadField}
use Rattle.rule_spec.specs.RulePath.{key_of}
use Rattle.rule_spec.specs.Holds.{has_tab}
use Rattle.rule_spec.specs.IsRule.{is_tab}

-- ---- the tests of a rule

-- of tests in their order, each with its refusal or none, the first that fails
abbrev pub first_refusal : List (Option RuleRefusal) → Option RuleRefusal
first_refusal [] = None
first_refusal (None ∷ tests) = first_refusal tests
first_refusal (Some refusal ∷ tests) = Some refusal

abbrev pub refused_if : Bool → RuleRefusal → Option RuleRefusal
refused_if true refusal = Some refusal
refused_if false refusal = None

-- what a reading refuses, if it does
abbrev pub refusal_in : {X : Type 0} → Result X RuleRefusal → Option RuleRefusal
refusal_in (Ok x) = None
refusal_in (Err refusal) = Some refusal

-- what the tests let pass
abbrev pub unless_refused : {X : Type 0} → Option RuleRefusal → X → Result X RuleRefusal
unless_refused None x = Ok x
unless_refused (Some refusal) x = Err refusal

-- ---- forms

-- the items of a list, each of one form
abbrev pub each : {X : Type 0} → (Data → Option X) → Items → Option (List X)
each form no_items = Some []
each form (item d items) = option_and_then (λ x. option_map (λ xs. x ∷ xs) (each form items)) (form d)

abbrev pub list_of : {X : Type 0} → (Data → Option X) → Data → Option (List X)
list_of form d = option_and_then (each form) (as_array d)

-- a list of texts
abbrev pub as_texts : Data → Option (List (List ℕ))
as_texts d = list_of as_str d

-- whether the request is to be third party
abbrev pub party_named : List ℕ → Option Bool
party_named name =
    if bytes_eq name (codes "firstParty") then Some false
    else (if bytes_eq name (codes "thirdParty") then Some true else None)

abbrev pub as_party : Data → Option Bool
as_party d = option_and_then party_named (as_str d)

abbrev pub as_kind : Data → Option Kind
as_kind d = option_and_then kind_named (as_str d)

-- a list of types as a set: each once, in the reference's order
abbrev pub kind_set : List Kind → List Kind
kind_set kinds = filter (has_kind kinds) all_kinds

abbrev pub as_kinds : Data → Option (List Kind)
as_kinds d = option_map kind_set (list_of as_kind d)

abbrev pub as_method : Data → Option Method
as_method d = option_and_then method_named (as_str d)

-- a list of methods as a set: each once, in the reference's order
abbrev pub method_set : List Method → List Method
method_set methods = filter (has_method methods) all_methods

abbrev pub as_methods : Data → Option (List Method)
as_methods d = option_map method_set (list_of as_method d)

abbrev pub tab_in_range : ℤ → Option ℤ
tab_in_range tab = if is_tab tab then Some tab else None

abbrev pub as_tab : Data → Option ℤ
as_tab d = option_and_then tab_in_range (option_and_then as_i64 (as_number d))

-- behind the others, unless it is among them
abbrev pub with_tab : List ℤ → ℤ → List ℤ
with_tab tabs tab = if has_tab tabs tab then tabs else tabs ++ tab ∷ []

-- a list of tabs without its repeats
abbrev pub tab_set : List ℤ → List ℤ
tab_set tabs = fold with_tab [] tabs

abbrev pub as_tabs : Data → Option (List ℤ)
as_tabs d = option_map tab_set (list_of as_tab d)

-- a list of texts that may be absent
abbrev pub texts_given : Option Data → Option (Option (List (List ℕ)))
texts_given None = Some None
texts_given (Some d) = option_map Some (as_texts d)

-- a test of response headers: a name, with two lists of texts that may be absent
abbrev pub as_header_test : Data → Option HeaderTest
as_header_test d =
    option_and_then (λ name.
    option_and_then (λ values.
    option_map (λ excluded. record { name = name; values = values; excluded = unwrap_or excluded [] })
    (texts_given (get (codes "excludedValues") d)))
    (texts_given (get (codes "values") d)))
    (option_and_then as_str (get (codes "header") d))

abbrev pub as_header_tests : Data → Option (List HeaderTest)
as_header_tests d = list_of as_header_test d

-- ---- fields

abbrev pub given_field : {X : Type 0} → RulePath → Option X → Result (Option X) RuleRefusal
given_field field None = Err (BadField field)
given_field field (Some x) = Ok (Some x)

-- a field that is absent is none, and one of another form is refused
abbrev pub field_from : {X : Type 0} → (Data → Option X) → RulePath → Option Data → Result (Option X) RuleRefusal
field_from form field None = Ok None
field_from form field (Some d) = given_field field (form d)

-- a field of a condition
unfoldable pub field_in : {X : Type 0} → (Data → Option X) → RulePath → Data → Result (Option X) RuleRefusal
field_in form field condition = field_from form field (get (key_of field) condition)

-- a field that no rule may have
abbrev pub unless_given : RulePath → Option Data → Result (Unit {0}) RuleRefusal
unless_given field None = Ok tt
unless_given field (Some d) = Err (BadField field)

unfoldable pub absent_in : RulePath → Data → Result (Unit {0}) RuleRefusal
absent_in field condition = unless_given field (get (key_of field) condition)

-- the list of an old name, which does not stand beside that of the new one
abbrev pub unless_beside : Option Data → RulePath → Result (Option (List (List ℕ))) RuleRefusal → Result (Option (List (List ℕ))) RuleRefusal
unless_beside None field list = list
unless_beside (Some d) field (Ok None) = Ok None
unless_beside (Some d) field (Ok (Some list)) = Err (BadField field)
unless_beside (Some d) field (Err refusal) = Err refusal

unfoldable pub old_list_in : RulePath → RulePath → Data → Result (Option (List (List ℕ))) RuleRefusal
old_list_in new old condition = unless_beside (get (key_of new) condition) old (field_in as_texts old condition)

-- the fields of a condition; each is none where it is absent
pub record Fields : Type 0 where
  pub url_filter : Option (List ℕ)
  pub regex_filter : Option (List ℕ)
  pub case_sensitive : Option Bool
  pub initiators : Option (List (List ℕ))
  pub not_initiators : Option (List (List ℕ))
  pub old_initiators : Option (List (List ℕ))
  pub old_not_initiators : Option (List (List ℕ))
  pub hosts : Option (List (List ℕ))
  pub not_hosts : Option (List (List ℕ))
  pub third_party : Option Bool
  pub kinds : Option (List Kind)
  pub not_kinds : Option (List Kind)
  pub methods : Option (List Method)
  pub not_methods : Option (List Method)
  pub tabs : Option (List ℤ)
  pub not_tabs : Option (List ℤ)
  pub header_tests : Option (List HeaderTest)
  pub not_header_tests : Option (List HeaderTest)

-- how each field is read, in the order in which they are tested
abbrev pub field_tests : Data → List (Option RuleRefusal)
field_tests c =
    refusal_in (absent_in path.TopDomains c)
    ∷ refusal_in (absent_in path.ExcludedTopDomains c)
    ∷ refusal_in (field_in as_str path.UrlFilter c)
    ∷ refusal_in (field_in as_str path.RegexFilter c)
    ∷ refusal_in (field_in as_bool path.IsUrlFilterCaseSensitive c)
    ∷ refusal_in (field_in as_texts path.InitiatorDomains c)
    ∷ refusal_in (field_in as_texts path.ExcludedInitiatorDomains c)
    ∷ refusal_in (old_list_in path.InitiatorDomains path.Domains c)
    ∷ refusal_in (old_list_in path.ExcludedInitiatorDomains path.ExcludedDomains c)
    ∷ refusal_in (field_in as_texts path.RequestDomains c)
    ∷ refusal_in (field_in as_texts path.ExcludedRequestDomains c)
    ∷ refusal_in (field_in as_party path.DomainType c)
    ∷ refusal_in (field_in as_kinds path.ResourceTypes c)
    ∷ refusal_in (field_in as_kinds path.ExcludedResourceTypes c)
    ∷ refusal_in (field_in as_methods path.RequestMethods c)
    ∷ refusal_in (field_in as_methods path.ExcludedRequestMethods c)
    ∷ refusal_in (field_in as_tabs path.TabIds c)
    ∷ refusal_in (field_in as_tabs path.ExcludedTabIds c)
    ∷ refusal_in (field_in as_header_tests path.ResponseHeaders c)
    ∷ refusal_in (field_in as_header_tests path.ExcludedResponseHeaders c)
    ∷ []

-- a field that was read, or none
abbrev pub field_of : {X : Type 0} → Result (Option X) RuleRefusal → Option X
field_of reading = result_unwrap_or reading None

abbrev pub fields_of : Data → Fields
fields_of c = record {
  url_filter = field_of (field_in as_str path.UrlFilter c);
  regex_filter = field_of (field_in as_str path.RegexFilter c);
  case_sensitive = field_of (field_in as_bool path.IsUrlFilterCaseSensitive c);
  initiators = field_of (field_in as_texts path.InitiatorDomains c);
  not_initiators = field_of (field_in as_texts path.ExcludedInitiatorDomains c);
  old_initiators = field_of (old_list_in path.InitiatorDomains path.Domains c);
  old_not_initiators = field_of (old_list_in path.ExcludedInitiatorDomains path.ExcludedDomains c);
  hosts = field_of (field_in as_texts path.RequestDomains c);
  not_hosts = field_of (field_in as_texts path.ExcludedRequestDomains c);
  third_party = field_of (field_in as_party path.DomainType c);
  kinds = field_of (field_in as_kinds path.ResourceTypes c);
  not_kinds = field_of (field_in as_kinds path.ExcludedResourceTypes c);
  methods = field_of (field_in as_methods path.RequestMethods c);
  not_methods = field_of (field_in as_methods path.ExcludedRequestMethods c);
  tabs = field_of (field_in as_tabs path.TabIds c);
  not_tabs = field_of (field_in as_tabs path.ExcludedTabIds c);
  header_tests = field_of (field_in as_header_tests path.ResponseHeaders c);
  not_header_tests = field_of (field_in as_header_tests path.ExcludedResponseHeaders c);
}

-- the fields of an object, or the first that is at fault
unfoldable pub fields_in : Data → Result Fields RuleRefusal
fields_in c = unless_refused (first_refusal (field_tests c)) (fields_of c)
