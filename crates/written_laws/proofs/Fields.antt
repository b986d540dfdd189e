-- The fields of a written condition, as they are read.
use Rattle.std.proofs.Common.{◌≡◌, ℕ, ℤ, pos, negsuc, ◌^◌, List, [], ◌∷◌, map, Bool, true, false, cond, Option, Some, None, Ok, refl, ap, ◌∙◌, arith}
use Rattle.std.specs.Prelude.{IfSome, codes, option_map, option_and_then, unwrap_or, nat_lt, if◌then◌else◌}
use Rattle.std.specs.List.{AllByRecursion, list_all}
use Rattle.std.proofs.lemmas.Bool.Decides.{nat_tests}
use Rattle.serde_json.specs.Data.{Data, string}
use Rattle.serde_json.specs.Find.{get, as_str, as_bool}
use Rattle.serde_json.specs.View.{items_of}
use Rattle.dnr_base.specs.declared.kind.Kind.{Kind}
use Rattle.dnr_base.specs.declared.kind.Kind.TheVariants as kind
use Rattle.dnr_base.specs.Kind.{all_kinds}
use Rattle.dnr_base.specs.declared.method.Method.{Method}
use Rattle.dnr_base.specs.declared.method.Method.TheVariants as method
use Rattle.dnr_spec.specs.HeaderTests.{HeaderTest}
use Rattle.rule_spec.specs.declared.rule_path.RulePath.{RulePath}
use Rattle.rule_spec.specs.declared.rule_path.RulePath.TheVariants as path
use Rattle.rule_spec.specs.RulePath.{key_of}
use Rattle.rule_spec.specs.Rule.{Condition}
use Rattle.rule_spec.specs.IsRule.{is_tab, AreTabs, IsCondition}
use Rattle.json_spec.specs.RuleFields.{each, list_of, as_texts, as_party, as_kind, as_kinds, kind_set, as_method, as_methods, method_set, as_tab, tab_in_range, tab_set, as_tabs, texts_given, as_header_test, as_header_tests, field_from, field_in, unless_given, absent_in, unless_beside, old_list_in, Fields, refusal_in, field_of, fields_in, first_refusal, unless_refused}
use Rattle.json_spec.specs.Written.{written_list, unless_empty, if_true, ascending_domains, ascending_tabs, domains_written, tab_written, tabs_written, kind_written, are_default, kinds_written, exclusion_of, exclusion_written, method_written, methods_written, party_written, test_written, condition_written}
use Rattle.written_laws.proofs.Objects.{found, missing}
use Rattle.written_laws.proofs.Sets.{both, tabs_all, tab_set-ascending}
use Rattle.written_laws.proofs.Values.{condition_fields, header_test_fields}
use Rattle.written_laws.proofs.TypeSets.{kind_set-set, method_set-set}

-- ---- lists

pub each_read : {X : Type 0} (form : X → Data) (reading : Data → Option X) (list : List X) → AllByRecursion (λ x. reading (form x) ≡ Some x) list → each reading (items_of (map form list)) ≡ Some list
each_read form reading [] h = refl
each_read form reading (x ∷ xs) h =
    ap (option_and_then (λ y. option_map (λ ys. y ∷ ys) (each reading (items_of (map form xs))))) h.0 ∙ ap (option_map (λ ys. x ∷ ys)) (each_read form reading xs h.1)

everywhere : {X : Type 0} (P : X → Type 0) → ((x : X) → P x) → (list : List X) → AllByRecursion P list
everywhere P p [] = tt
everywhere P p (x ∷ xs) = (p x, everywhere P p xs)

pub list_read : {X : Type 0} (form : X → Data) (reading : Data → Option X) → ((x : X) → reading (form x) ≡ Some x) → (list : List X) → list_of reading (written_list form list) ≡ Some list
list_read form reading h list = each_read form reading list (everywhere (λ x. reading (form x) ≡ Some x) h list)

-- a list that is left out where it is empty
abbrev pub given_list : {X : Type 0} → List X → Option (List X)
given_list [] = None
given_list (x ∷ xs) = Some (x ∷ xs)

-- ---- fields

-- a field that is left out where it is false
abbrev pub given_true : Bool → Option Bool
given_true true = Some true
given_true false = None

text-read : (field : RulePath) (o : Option (List ℕ)) → field_from as_str field (option_map string o) ≡ Ok o
text-read field None = refl
text-read field (Some text) = refl

flag-read : (field : RulePath) (flag : Bool) → field_from as_bool field (if_true flag) ≡ Ok (given_true flag)
flag-read field true = refl
flag-read field false = refl

party-read : (field : RulePath) (o : Option Bool) → field_from as_party field (option_map party_written o) ≡ Ok o
party-read field None = refl
party-read field (Some true) = refl
party-read field (Some false) = refl

given_read : {X : Type 0} (reading : Data → Option X) (field : RulePath) (d : Data) (x : X) → reading d ≡ Some x → field_from reading field (Some d) ≡ Ok (Some x)
given_read reading field d x h = rw h refl

some_read : {X : Type 0} (form : X → Data) (reading : Data → Option (List X)) (field : RulePath) (list : List X) → reading (written_list form list) ≡ Some list
    → field_from reading field (unless_empty (map form list)) ≡ Ok (given_list list)
some_read form reading field [] h = refl
some_read form reading field (x ∷ xs) h = rw h refl

texts-read : (list : List (List ℕ)) → as_texts (written_list string list) ≡ Some list
texts-read list = list_read string as_str (λ text. refl) list

domains-read : (field : RulePath) (o : Option (List (List ℕ))) → field_from as_texts field (option_map domains_written o) ≡ Ok (option_map ascending_domains o)
domains-read field None = refl
domains-read field (Some list) = given_read as_texts field (domains_written list) (ascending_domains list) (texts-read (ascending_domains list))

excluded_domains-read : (field : RulePath) (list : List (List ℕ)) → field_from as_texts field (unless_empty (map string list)) ≡ Ok (given_list list)
excluded_domains-read field list = some_read string as_texts field list (texts-read list)

kind-read : (k : Kind) → as_kind (kind_written k) ≡ Some k
kind-read kind.MainFrame = refl
kind-read kind.SubFrame = refl
kind-read kind.Stylesheet = refl
kind-read kind.Script = refl
kind-read kind.Image = refl
kind-read kind.Font = refl
kind-read kind.Object = refl
kind-read kind.XmlHttpRequest = refl
kind-read kind.Ping = refl
kind-read kind.CspReport = refl
kind-read kind.Media = refl
kind-read kind.WebSocket = refl
kind-read kind.WebTransport = refl
kind-read kind.WebBundle = refl
kind-read kind.Other = refl

kind_list-read : (kinds : List Kind) → as_kinds (written_list kind_written kinds) ≡ Some (kind_set kinds)
kind_list-read kinds = ap (option_map kind_set) (list_read kind_written as_kind kind-read kinds)

-- the types that are listed
abbrev pub listed_kinds : List Kind → Option (List Kind)
listed_kinds kinds = if are_default kinds then None else given_list (kind_set kinds)

unless_default : (field : RulePath) (b : Bool) (o : Option Data) (kinds : Option (List Kind)) → field_from as_kinds field o ≡ Ok kinds
    → field_from as_kinds field (cond b None o) ≡ Ok (cond b None kinds)
unless_default field true o kinds h = refl
unless_default field false o kinds h = h

kinds-read : (field : RulePath) (kinds : List Kind) → field_from as_kinds field (kinds_written kinds) ≡ Ok (listed_kinds kinds)
unfolding kinds_written
kinds-read field kinds =
    unless_default field (are_default kinds) (unless_empty (map kind_written (kind_set kinds))) (given_list (kind_set kinds))
    (some_read kind_written as_kinds field (kind_set kinds) (kind_list-read (kind_set kinds) ∙ ap Some (kind_set-set kinds)))

-- all are excluded where none is listed
abbrev pub excluded_of : List Kind → Option (List Kind)
excluded_of [] = Some all_kinds
excluded_of (k ∷ kinds) = None

exclusion-read : (field : RulePath) (kinds : List Kind) → field_from as_kinds field (exclusion_of kinds) ≡ Ok (excluded_of kinds)
exclusion-read field [] = refl
exclusion-read field (k ∷ kinds) = refl

excluded_kinds-read : (field : RulePath) (kinds : List Kind) → field_from as_kinds field (exclusion_written kinds) ≡ Ok (excluded_of (kind_set kinds))
unfolding exclusion_written
excluded_kinds-read field kinds = exclusion-read field (kind_set kinds)

method-read : (m : Method) → as_method (method_written m) ≡ Some m
method-read method.Connect = refl
method-read method.Delete = refl
method-read method.Get = refl
method-read method.Head = refl
method-read method.Options = refl
method-read method.Patch = refl
method-read method.Post = refl
method-read method.Put = refl
method-read method.Other = refl

method_list-read : (list : List Method) → as_methods (methods_written list) ≡ Some (method_set list)
method_list-read list = ap (option_map method_set) (list_read method_written as_method method-read (method_set list)) ∙ ap Some (method_set-set list)

methods-read : (field : RulePath) (o : Option (List Method)) → field_from as_methods field (option_map methods_written o) ≡ Ok (option_map method_set o)
methods-read field None = refl
methods-read field (Some list) = given_read as_methods field (methods_written list) (method_set list) (method_list-read list)

excluded_methods-read : (field : RulePath) (list : List Method) → field_from as_methods field (unless_empty (map method_written (method_set list))) ≡ Ok (given_list (method_set list))
excluded_methods-read field list = some_read method_written as_methods field (method_set list) (method_list-read list)

ranged : (b c : Bool) (tab : ℤ) → b ≡ true → c ≡ true → option_and_then (λ t. cond c (Some t) None) (cond b (Some tab) None) ≡ Some tab
ranged true true tab p q = refl
ranged true false tab p q = cc
ranged false c tab p q = cc

tab-read : (tab : ℤ) → is_tab tab ≡ true → as_tab (tab_written tab) ≡ Some tab
tab-read (pos n) h = let small : nat_lt n (2 ^ 63) ≡ true = grind (arith, nat_tests) in ap (λ b. option_and_then tab_in_range (cond b (Some (pos n)) None)) small ∙ ap (λ b. cond b (Some (pos n)) None) h
tab-read (negsuc n) h = ap (λ b. cond b (Some (negsuc n)) None) h

each-tab : (tabs : List ℤ) → list_all is_tab tabs ≡ true → AllByRecursion (λ tab. as_tab (tab_written tab) ≡ Some tab) tabs
each-tab [] h = tt
each-tab (tab ∷ tabs) h = let p = both (is_tab tab) (list_all is_tab tabs) h in (tab-read tab p.0, each-tab tabs p.1)

tab_list-read : (tabs : List ℤ) → AreTabs tabs → as_tabs (tabs_written tabs) ≡ Some (ascending_tabs tabs)
tab_list-read tabs h =
    ap (option_map tab_set) (each_read tab_written as_tab (ascending_tabs tabs) (each-tab (ascending_tabs tabs) (tabs_all is_tab tabs h))) ∙ ap Some (tab_set-ascending tabs)

tabs-read : (field : RulePath) (o : Option (List ℤ)) → IfSome o AreTabs → field_from as_tabs field (option_map tabs_written o) ≡ Ok (option_map ascending_tabs o)
tabs-read field None h = refl
tabs-read field (Some tabs) h = given_read as_tabs field (tabs_written tabs) (ascending_tabs tabs) (tab_list-read tabs h)

excluded_tabs-read : (field : RulePath) (tabs : List ℤ) → AreTabs tabs → field_from as_tabs field (unless_empty (map tab_written (ascending_tabs tabs))) ≡ Ok (given_list (ascending_tabs tabs))
excluded_tabs-read field tabs h = some_read tab_written as_tabs field (ascending_tabs tabs) (tab_list-read tabs h)

given_texts-read : (o : Option (List (List ℕ))) → texts_given (option_map (written_list string) o) ≡ Some o
given_texts-read None = refl
given_texts-read (Some list) = ap (option_map Some) (texts-read list)

excluded_texts-read : (list : List (List ℕ)) → texts_given (unless_empty (map string list)) ≡ Some (given_list list)
excluded_texts-read [] = refl
excluded_texts-read (text ∷ texts) = ap (option_map Some) (texts-read (text ∷ texts))

given-or_none : {X : Type 0} (list : List X) → unwrap_or (given_list list) [] ≡ list
given-or_none [] = refl
given-or_none (x ∷ xs) = refl

test-read : (test : HeaderTest) → as_header_test (test_written test) ≡ Some test
test-read test =
    let name = ap (option_and_then as_str) (found (codes "header") (header_test_fields test) (Some (string test.name)) refl) in
    let values = ap texts_given (found (codes "values") (header_test_fields test) (option_map (written_list string) test.values) refl) ∙ given_texts-read test.values in
    let excluded = ap texts_given (found (codes "excludedValues") (header_test_fields test) (unless_empty (map string test.excluded)) refl) ∙ excluded_texts-read test.excluded in
    (λ i. option_and_then (λ name.
    option_and_then (λ values.
    option_map (λ (list : Option (List (List ℕ))). test_of name values (unwrap_or list [])) (excluded i))
    (values i))
    (name i))
    ∙ ap (λ list. Some (test_of test.name test.values list)) (given-or_none test.excluded)
  where
    test_of : List ℕ → Option (List (List ℕ)) → List (List ℕ) → HeaderTest
    test_of name values excluded = record { name = name; values = values; excluded = excluded }

test_list-read : (list : List HeaderTest) → as_header_tests (written_list test_written list) ≡ Some list
test_list-read list = list_read test_written as_header_test test-read list

tests-read : (field : RulePath) (o : Option (List HeaderTest)) → field_from as_header_tests field (option_map (written_list test_written) o) ≡ Ok o
tests-read field None = refl
tests-read field (Some list) = given_read as_header_tests field (written_list test_written list) list (test_list-read list)

-- ---- the condition

-- the fields that are read of a condition
abbrev pub fields_kept : Condition → Fields
fields_kept c = record {
  url_filter = c.url_filter;
  regex_filter = c.regex_filter;
  case_sensitive = given_true c.case_sensitive;
  initiators = option_map ascending_domains c.initiators;
  not_initiators = given_list (ascending_domains c.not_initiators);
  old_initiators = None;
  old_not_initiators = None;
  hosts = option_map ascending_domains c.hosts;
  not_hosts = given_list (ascending_domains c.not_hosts);
  third_party = c.third_party;
  kinds = listed_kinds c.kinds;
  not_kinds = excluded_of (kind_set c.kinds);
  methods = option_map method_set c.methods;
  not_methods = given_list (method_set c.not_methods);
  tabs = option_map ascending_tabs c.tabs;
  not_tabs = given_list (ascending_tabs c.not_tabs);
  header_tests = c.header_tests;
  not_header_tests = given_list c.not_header_tests;
}

module _ {X : Type 0} where
  read_at : (reading : Data → Option X) (field : RulePath) (c : Condition) (o : Option Data) (x : Option X) → get (key_of field) (condition_written c) ≡ o → field_from reading field o ≡ Ok x
      → field_in reading field (condition_written c) ≡ Ok x
  unfolding field_in
  read_at reading field c o x is h = ap (field_from reading field) is ∙ h

absent : (field : RulePath) (c : Condition) → get (key_of field) (condition_written c) ≡ None → absent_in field (condition_written c) ≡ Ok tt
unfolding absent_in
absent field c is = ap (unless_given field) is

beside : (o : Option Data) (field : RulePath) → unless_beside o field (Ok None) ≡ Ok None
beside None field = refl
beside (Some d) field = refl

old-absent : (new old : RulePath) (c : Condition) → get (key_of old) (condition_written c) ≡ None → old_list_in new old (condition_written c) ≡ Ok None
unfolding old_list_in
old-absent new old c is =
    ap (unless_beside (get (key_of new) (condition_written c)) old) (read_at as_texts old c None None is refl) ∙ beside (get (key_of new) (condition_written c)) old

at-url_filter : (c : Condition) → get (key_of path.UrlFilter) (condition_written c) ≡ option_map string c.url_filter
unfolding condition_written
at-url_filter c = found (codes "urlFilter") (condition_fields c) (option_map string c.url_filter) refl

url_filter-read : (c : Condition) → field_in as_str path.UrlFilter (condition_written c) ≡ Ok (c.url_filter)
url_filter-read c = read_at as_str path.UrlFilter c (option_map string c.url_filter) (c.url_filter) (at-url_filter c) (text-read path.UrlFilter c.url_filter)

at-regex_filter : (c : Condition) → get (key_of path.RegexFilter) (condition_written c) ≡ option_map string c.regex_filter
unfolding condition_written
at-regex_filter c = found (codes "regexFilter") (condition_fields c) (option_map string c.regex_filter) refl

regex_filter-read : (c : Condition) → field_in as_str path.RegexFilter (condition_written c) ≡ Ok (c.regex_filter)
regex_filter-read c = read_at as_str path.RegexFilter c (option_map string c.regex_filter) (c.regex_filter) (at-regex_filter c) (text-read path.RegexFilter c.regex_filter)

at-case_sensitive : (c : Condition) → get (key_of path.IsUrlFilterCaseSensitive) (condition_written c) ≡ if_true c.case_sensitive
unfolding condition_written
at-case_sensitive c = found (codes "isUrlFilterCaseSensitive") (condition_fields c) (if_true c.case_sensitive) refl

case_sensitive-read : (c : Condition) → field_in as_bool path.IsUrlFilterCaseSensitive (condition_written c) ≡ Ok (given_true c.case_sensitive)
case_sensitive-read c = read_at as_bool path.IsUrlFilterCaseSensitive c (if_true c.case_sensitive) (given_true c.case_sensitive) (at-case_sensitive c) (flag-read path.IsUrlFilterCaseSensitive c.case_sensitive)

at-initiators : (c : Condition) → get (key_of path.InitiatorDomains) (condition_written c) ≡ option_map domains_written c.initiators
unfolding condition_written
at-initiators c = found (codes "initiatorDomains") (condition_fields c) (option_map domains_written c.initiators) refl

initiators-read : (c : Condition) → field_in as_texts path.InitiatorDomains (condition_written c) ≡ Ok (option_map ascending_domains c.initiators)
initiators-read c = read_at as_texts path.InitiatorDomains c (option_map domains_written c.initiators) (option_map ascending_domains c.initiators) (at-initiators c) (domains-read path.InitiatorDomains c.initiators)

at-not_initiators : (c : Condition) → get (key_of path.ExcludedInitiatorDomains) (condition_written c) ≡ unless_empty (map string (ascending_domains c.not_initiators))
unfolding condition_written
at-not_initiators c = found (codes "excludedInitiatorDomains") (condition_fields c) (unless_empty (map string (ascending_domains c.not_initiators))) refl

not_initiators-read : (c : Condition) → field_in as_texts path.ExcludedInitiatorDomains (condition_written c) ≡ Ok (given_list (ascending_domains c.not_initiators))
not_initiators-read c = read_at as_texts path.ExcludedInitiatorDomains c (unless_empty (map string (ascending_domains c.not_initiators))) (given_list (ascending_domains c.not_initiators)) (at-not_initiators c) (excluded_domains-read path.ExcludedInitiatorDomains (ascending_domains c.not_initiators))

at-hosts : (c : Condition) → get (key_of path.RequestDomains) (condition_written c) ≡ option_map domains_written c.hosts
unfolding condition_written
at-hosts c = found (codes "requestDomains") (condition_fields c) (option_map domains_written c.hosts) refl

hosts-read : (c : Condition) → field_in as_texts path.RequestDomains (condition_written c) ≡ Ok (option_map ascending_domains c.hosts)
hosts-read c = read_at as_texts path.RequestDomains c (option_map domains_written c.hosts) (option_map ascending_domains c.hosts) (at-hosts c) (domains-read path.RequestDomains c.hosts)

at-not_hosts : (c : Condition) → get (key_of path.ExcludedRequestDomains) (condition_written c) ≡ unless_empty (map string (ascending_domains c.not_hosts))
unfolding condition_written
at-not_hosts c = found (codes "excludedRequestDomains") (condition_fields c) (unless_empty (map string (ascending_domains c.not_hosts))) refl

not_hosts-read : (c : Condition) → field_in as_texts path.ExcludedRequestDomains (condition_written c) ≡ Ok (given_list (ascending_domains c.not_hosts))
not_hosts-read c = read_at as_texts path.ExcludedRequestDomains c (unless_empty (map string (ascending_domains c.not_hosts))) (given_list (ascending_domains c.not_hosts)) (at-not_hosts c) (excluded_domains-read path.ExcludedRequestDomains (ascending_domains c.not_hosts))

at-third_party : (c : Condition) → get (key_of path.DomainType) (condition_written c) ≡ option_map party_written c.third_party
unfolding condition_written
at-third_party c = found (codes "domainType") (condition_fields c) (option_map party_written c.third_party) refl

third_party-read : (c : Condition) → field_in as_party path.DomainType (condition_written c) ≡ Ok (c.third_party)
third_party-read c = read_at as_party path.DomainType c (option_map party_written c.third_party) (c.third_party) (at-third_party c) (party-read path.DomainType c.third_party)

at-kinds : (c : Condition) → get (key_of path.ResourceTypes) (condition_written c) ≡ kinds_written c.kinds
unfolding condition_written
at-kinds c = found (codes "resourceTypes") (condition_fields c) (kinds_written c.kinds) refl

kinds-read-at : (c : Condition) → field_in as_kinds path.ResourceTypes (condition_written c) ≡ Ok (listed_kinds c.kinds)
kinds-read-at c = read_at as_kinds path.ResourceTypes c (kinds_written c.kinds) (listed_kinds c.kinds) (at-kinds c) (kinds-read path.ResourceTypes c.kinds)

at-not_kinds : (c : Condition) → get (key_of path.ExcludedResourceTypes) (condition_written c) ≡ exclusion_written c.kinds
unfolding condition_written
at-not_kinds c = found (codes "excludedResourceTypes") (condition_fields c) (exclusion_written c.kinds) refl

not_kinds-read : (c : Condition) → field_in as_kinds path.ExcludedResourceTypes (condition_written c) ≡ Ok (excluded_of (kind_set c.kinds))
not_kinds-read c = read_at as_kinds path.ExcludedResourceTypes c (exclusion_written c.kinds) (excluded_of (kind_set c.kinds)) (at-not_kinds c) (excluded_kinds-read path.ExcludedResourceTypes c.kinds)

at-methods : (c : Condition) → get (key_of path.RequestMethods) (condition_written c) ≡ option_map methods_written c.methods
unfolding condition_written
at-methods c = found (codes "requestMethods") (condition_fields c) (option_map methods_written c.methods) refl

methods-read-at : (c : Condition) → field_in as_methods path.RequestMethods (condition_written c) ≡ Ok (option_map method_set c.methods)
methods-read-at c = read_at as_methods path.RequestMethods c (option_map methods_written c.methods) (option_map method_set c.methods) (at-methods c) (methods-read path.RequestMethods c.methods)

at-not_methods : (c : Condition) → get (key_of path.ExcludedRequestMethods) (condition_written c) ≡ unless_empty (map method_written (method_set c.not_methods))
unfolding condition_written
at-not_methods c = found (codes "excludedRequestMethods") (condition_fields c) (unless_empty (map method_written (method_set c.not_methods))) refl

not_methods-read : (c : Condition) → field_in as_methods path.ExcludedRequestMethods (condition_written c) ≡ Ok (given_list (method_set c.not_methods))
not_methods-read c = read_at as_methods path.ExcludedRequestMethods c (unless_empty (map method_written (method_set c.not_methods))) (given_list (method_set c.not_methods)) (at-not_methods c) (excluded_methods-read path.ExcludedRequestMethods c.not_methods)

at-tabs : (c : Condition) → get (key_of path.TabIds) (condition_written c) ≡ option_map tabs_written c.tabs
unfolding condition_written
at-tabs c = found (codes "tabIds") (condition_fields c) (option_map tabs_written c.tabs) refl

tabs-read-at : (c : Condition) → IsCondition c → field_in as_tabs path.TabIds (condition_written c) ≡ Ok (option_map ascending_tabs c.tabs)
tabs-read-at c is = read_at as_tabs path.TabIds c (option_map tabs_written c.tabs) (option_map ascending_tabs c.tabs) (at-tabs c) (tabs-read path.TabIds c.tabs is.tabs.1)

at-not_tabs : (c : Condition) → get (key_of path.ExcludedTabIds) (condition_written c) ≡ unless_empty (map tab_written (ascending_tabs c.not_tabs))
unfolding condition_written
at-not_tabs c = found (codes "excludedTabIds") (condition_fields c) (unless_empty (map tab_written (ascending_tabs c.not_tabs))) refl

not_tabs-read : (c : Condition) → IsCondition c → field_in as_tabs path.ExcludedTabIds (condition_written c) ≡ Ok (given_list (ascending_tabs c.not_tabs))
not_tabs-read c is = read_at as_tabs path.ExcludedTabIds c (unless_empty (map tab_written (ascending_tabs c.not_tabs))) (given_list (ascending_tabs c.not_tabs)) (at-not_tabs c) (excluded_tabs-read path.ExcludedTabIds c.not_tabs is.not_tabs)

no-top_domains : (c : Condition) → get (key_of path.TopDomains) (condition_written c) ≡ None
unfolding condition_written
no-top_domains c = missing (codes "topDomains") (condition_fields c) refl

no-not_top_domains : (c : Condition) → get (key_of path.ExcludedTopDomains) (condition_written c) ≡ None
unfolding condition_written
no-not_top_domains c = missing (codes "excludedTopDomains") (condition_fields c) refl

at-header_tests : (c : Condition) → get (key_of path.ResponseHeaders) (condition_written c) ≡ option_map (written_list test_written) c.header_tests
unfolding condition_written
at-header_tests c = found (codes "responseHeaders") (condition_fields c) (option_map (written_list test_written) c.header_tests) refl

header_tests-read : (c : Condition) → field_in as_header_tests path.ResponseHeaders (condition_written c) ≡ Ok c.header_tests
header_tests-read c =
    read_at as_header_tests path.ResponseHeaders c (option_map (written_list test_written) c.header_tests) c.header_tests (at-header_tests c)
    (tests-read path.ResponseHeaders c.header_tests)

at-not_header_tests : (c : Condition) → get (key_of path.ExcludedResponseHeaders) (condition_written c) ≡ unless_empty (map test_written c.not_header_tests)
unfolding condition_written
at-not_header_tests c = found (codes "excludedResponseHeaders") (condition_fields c) (unless_empty (map test_written c.not_header_tests)) refl

not_header_tests-read : (c : Condition) → field_in as_header_tests path.ExcludedResponseHeaders (condition_written c) ≡ Ok (given_list c.not_header_tests)
not_header_tests-read c =
    read_at as_header_tests path.ExcludedResponseHeaders c (unless_empty (map test_written c.not_header_tests)) (given_list c.not_header_tests) (at-not_header_tests c)
    (some_read test_written as_header_tests path.ExcludedResponseHeaders c.not_header_tests (test_list-read c.not_header_tests))

no-old_initiators : (c : Condition) → get (key_of path.Domains) (condition_written c) ≡ None
unfolding condition_written
no-old_initiators c = missing (codes "domains") (condition_fields c) refl

no-old_not_initiators : (c : Condition) → get (key_of path.ExcludedDomains) (condition_written c) ≡ None
unfolding condition_written
no-old_not_initiators c = missing (codes "excludedDomains") (condition_fields c) refl

-- a written condition is read as its fields
pub fields_read : (c : Condition) → IsCondition c → fields_in (condition_written c) ≡ Ok (fields_kept c)
unfolding fields_in
fields_read c is =
    let top_domains = absent path.TopDomains c (no-top_domains c) in
    let not_top_domains = absent path.ExcludedTopDomains c (no-not_top_domains c) in
    let old_initiators = old-absent path.InitiatorDomains path.Domains c (no-old_initiators c) in
    let old_not_initiators = old-absent path.ExcludedInitiatorDomains path.ExcludedDomains c (no-old_not_initiators c) in
    λ i. unless_refused (first_refusal (
    refusal_in (top_domains i)
    ∷ refusal_in (not_top_domains i)
    ∷ refusal_in (url_filter-read c i)
    ∷ refusal_in (regex_filter-read c i)
    ∷ refusal_in (case_sensitive-read c i)
    ∷ refusal_in (initiators-read c i)
    ∷ refusal_in (not_initiators-read c i)
    ∷ refusal_in (old_initiators i)
    ∷ refusal_in (old_not_initiators i)
    ∷ refusal_in (hosts-read c i)
    ∷ refusal_in (not_hosts-read c i)
    ∷ refusal_in (third_party-read c i)
    ∷ refusal_in (kinds-read-at c i)
    ∷ refusal_in (not_kinds-read c i)
    ∷ refusal_in (methods-read-at c i)
    ∷ refusal_in (not_methods-read c i)
    ∷ refusal_in (tabs-read-at c is i)
    ∷ refusal_in (not_tabs-read c is i)
    ∷ refusal_in (header_tests-read c i)
    ∷ refusal_in (not_header_tests-read c i)
    ∷ []
    )) (record {
      url_filter = field_of (url_filter-read c i);
      regex_filter = field_of (regex_filter-read c i);
      case_sensitive = field_of (case_sensitive-read c i);
      initiators = field_of (initiators-read c i);
      not_initiators = field_of (not_initiators-read c i);
      old_initiators = field_of (old_initiators i);
      old_not_initiators = field_of (old_not_initiators i);
      hosts = field_of (hosts-read c i);
      not_hosts = field_of (not_hosts-read c i);
      third_party = field_of (third_party-read c i);
      kinds = field_of (kinds-read-at c i);
      not_kinds = field_of (not_kinds-read c i);
      methods = field_of (methods-read-at c i);
      not_methods = field_of (not_methods-read c i);
      tabs = field_of (tabs-read-at c is i);
      not_tabs = field_of (not_tabs-read c is i);
      header_tests = field_of (header_tests-read c i);
      not_header_tests = field_of (not_header_tests-read c i);
    })
