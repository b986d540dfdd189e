-- A rule that is read keeps what every rule keeps.
use Rattle.std.proofs.Common.{◌≡◌, ℕ, ℤ, fold, ◌+◌, ◌<◌, List, [], ◌∷◌, ◌++◌, length, map, Bool, true, false, cond, not, ◌&&◌, ◌||◌, ◌==◌, Option, Some, None, Result, Ok, Err, refl, sym, ap, ◌∙◌, subst, arith, ◌⊎◌, inl, inr, ⊎_elim}
use Rattle.std.specs.Prelude.{IsTrue, IfSome, is_some, is_none, unwrap_or, option_map, option_and_then, nat_le, nat_lt, codes, nat_eq}
use Rattle.std.specs.Option.{option_map_or}
use Rattle.std.specs.Result.{result_unwrap_or, result_err}
use Rattle.std.specs.List.{list_all, list_any, starts_with}
use Rattle.std.proofs.lemmas.List.{length-map}
use Rattle.std.proofs.lemmas.Bool.Decides.{nat_tests}
use Rattle.serde_json.specs.Data.{Data}
use Rattle.dnr_base.specs.declared.kind.Kind.{Kind}
use Rattle.dnr_base.specs.declared.direction.Direction.{Direction}
use Rattle.dnr_base.specs.declared.direction.Direction.TheVariants as direction
use Rattle.dnr_spec.specs.declared.domain_refusal.DomainRefusal.{DomainRefusal}
use Rattle.dnr_spec.specs.declared.pattern_refusal.PatternRefusal.{PatternRefusal}
use Rattle.dnr_spec.specs.declared.pattern_refusal.PatternRefusal.TheVariants.{Empty, TooLong, AnchorStar, NotAscii}
use Rattle.std.specs.Char.{is_ascii}
use Rattle.dnr_spec.specs.UrlFilter.{pattern_of, max_pattern}
use Rattle.dnr_spec.specs.Patterns.{groups_of}
use Rattle.dnr_spec.specs.Domains.{domains_of, unless_bad, lower_case}
use Rattle.dnr_spec.specs.HeaderTests.{HeaderTest, is_header_test}
use Rattle.rule_spec.specs.declared.rule_path.RulePath.{RulePath}
use Rattle.rule_spec.specs.declared.rule_path.RulePath.TheVariants as path
use Rattle.rule_spec.specs.declared.rule_refusal.RuleRefusal.{RuleRefusal}
use Rattle.rule_spec.specs.declared.rule_refusal.RuleRefusal.TheVariants.{BadId, BadPriority, EmptyList, BothFilters, BadUrlFilter, BadRegex, AllowAllTypes, BadHeaderTest, BadAction, BadTransform, BadHeader}
use Rattle.rule_spec.specs.Rule.{Condition, Action, Rule, modify_headers}
use Rattle.rule_spec.specs.Rule as rules
use Rattle.rule_spec.specs.Holds.{has_tab}
use Rattle.rule_spec.specs.RulePath.{key_of}
use Rattle.rule_spec.specs.IsRule.{is_number, is_regex_text, is_regex_filter, is_tab, AreTabs, is_frame_kind, are_frame_kinds, AreDomains, IsGivenWhole, IsCondition, IsAction, IsRule, IsOperation, AreOperations, filter_groups}
use Rattle.json_spec.specs.Json.{whole_number, text_at}
use Rattle.json_spec.specs.RuleFields.{first_refusal, refused_if, refusal_in, unless_refused, Fields, fields_in}
use Rattle.std.specs.Str.{bytes_eq, str_to_ascii_lowercase}
use Rattle.serde_json.specs.Data.{Items, no_items, item}
use Rattle.serde_json.specs.Find.{get, as_str, as_number, as_i64, as_array, as_object}
use Rattle.dnr_base.specs.declared.scheme.Scheme.{Scheme}
use Rattle.dnr_base.specs.Scheme.{scheme_named}
use Rattle.dnr_base.specs.declared.redirect.Redirect.{Redirect}
use Rattle.dnr_base.specs.declared.redirect.Redirect.TheVariants as redirect
use Rattle.dnr_base.specs.declared.transform.Transform.{Transform}
use Rattle.dnr_base.specs.declared.query_transform.QueryTransform.{QueryTransform}
use Rattle.dnr_base.specs.declared.query_pair.QueryPair.{QueryPair}
use Rattle.dnr_base.specs.declared.operation.Operation.{Operation}
use Rattle.dnr_spec.specs.Headers.{HeaderOp, header_op_of, is_name, has_bad_value, needs_value, is_append, may_append}
use Rattle.dnr_spec.specs.declared.header_refusal.HeaderRefusal.{HeaderRefusal}
use Rattle.dnr_spec.specs.declared.header_refusal.HeaderRefusal.TheVariants.{BadName, BadValue, ValueMissing, ValueGiven, AppendNotAllowed}
use Rattle.rule_spec.specs.declared.rule_refusal.HeaderCause.TheVariants.{NoHeaders}
use Rattle.rule_spec.specs.Redirects.{is_short, is_short_pair, is_new_host, is_new_port, is_new_path, is_new_query, is_new_fragment, is_new_scheme, is_extension_path, is_redirect_url, is_substitution, IsPart, IsKeptHost, AreChanges, IsTransform, IsRedirect}
use Rattle.json_spec.specs.RuleFields.{each, tab_in_range, as_tab, with_tab, tab_set, as_tabs, given_field, field_from, field_in, field_of, field_tests, fields_of}
use Rattle.json_spec.specs.RuleAction.{tested_text, short_text, new_scheme, as_new_scheme, list_from, pair_from, as_pair, changes_from, as_changes, given_part, part_from, part_in, part_of, transform_tests, transform_of, transform_in, extension_in, url_in, substitution_in, transformed_by, redirect_from, redirect_at, redirecting, redirect_in, or_bad_redirect, if_passes, Change, as_change, changes_at, read_change, with_op, ops_of, or_bad_op, ops_in, is_no_item, is_empty_list, modifying, modify_from, modify_in, action_named, type_of, or_bad_action, action_in}
use Rattle.json_spec.specs.ReadRule.{url_filter_test, regex_text_test, pattern_test, filter_tests, filters_in, given_domains, domains_from, domains_in, domain_tests, DomainLists, domain_lists_of, domain_lists_in, either, list_of, empty_test, lists_no_value, empty_values_test, header_test, header_test_tests, header_tests_in, list_tests, lists_in, kinds_from, condition_of, in_range, as_id, id_of, priority_from, priority_of, Numbers, number_tests, numbers_of, numbers_in, condition_at, fields_at, no_lists, lists_at, no_fields, groups_at, gives_frames, is_allow_all, no_numbers, frames_in, rule_tests, rule_of, rule_in, RulesKeepTheirForm}
use Rattle.rule_laws.proofs.HeaderTests.{PassTests, tests_kept, or_no_tests_kept, tests_given}

-- ---- tests that pass

pub record AllPass (tests : List (Option RuleRefusal)) : Type 0 where
  pub none : first_refusal tests ≡ None

first_passes : (test : Option RuleRefusal) (tests : List (Option RuleRefusal)) → first_refusal (test ∷ tests) ≡ None → (test ≡ None) × (first_refusal tests ≡ None)
first_passes None tests h = (refl, h)
first_passes (Some refusal) tests h = cc

pub first_none : {test : Option RuleRefusal} {tests : List (Option RuleRefusal)} → AllPass (test ∷ tests) → test ≡ None
first_none {test = test} {tests = tests} pass = (first_passes test tests pass.none).0

pub rest_pass : {test : Option RuleRefusal} {tests : List (Option RuleRefusal)} → AllPass (test ∷ tests) → AllPass tests
rest_pass {test = test} {tests = tests} pass = record { none = (first_passes test tests pass.none).1 }

pub not_refused : (b : Bool) (refusal : RuleRefusal) → refused_if b refusal ≡ None → b ≡ false
not_refused true refusal h = cc
not_refused false refusal h = refl

passed : {X : Type 0} (test : Option RuleRefusal) (x y : X) → unless_refused test x ≡ Ok y → (test ≡ None) × (x ≡ y)
passed None x y h = (refl, cc)
passed (Some refusal) x y h = cc

pub all_passed : {X : Type 0} (tests : List (Option RuleRefusal)) (x y : X) → unless_refused (first_refusal tests) x ≡ Ok y → AllPass tests × (x ≡ y)
all_passed tests x y h = let p = passed (first_refusal tests) x y h in (record { none = p.0 }, p.1)

pub value_there : {X : Type 0} (reading : Result X RuleRefusal) → refusal_in reading ≡ None → (x : X) × (reading ≡ Ok x)
value_there (Ok x) h = (x, refl)
value_there (Err refusal) h = cc

given : {X : Type 0} (o : Option X) → is_none o ≡ false → (x : X) × (o ≡ Some x)
given None h = cc
given (Some x) h = (x, refl)

-- ---- numbers

kept : {X : Type 0} (test : X → Bool) (m n : X) (b : Bool) → test m ≡ b → cond b (Some m) None ≡ Some n → test n ≡ true
kept test m n true is h = let same : m ≡ n = cc in subst (λ k. test k ≡ true) same is
kept test m n false is h = cc

in_range-valid : (o : Option ℕ) (n : ℕ) → option_and_then in_range o ≡ Some n → is_number n ≡ true
in_range-valid None n h = cc
in_range-valid (Some m) n h = kept is_number m n (is_number m) refl h

id-valid : (o : Option Data) (n : ℕ) → option_and_then as_id o ≡ Some n → is_number n ≡ true
id-valid None n h = cc
id-valid (Some d) n h = in_range-valid (whole_number d) n h

priority-valid : (o : Option Data) (n : ℕ) → priority_from o ≡ Some n → is_number n ≡ true
priority-valid None n h = let same : 1 ≡ n = cc in subst (λ k. is_number k ≡ true) same refl
priority-valid (Some d) n h = in_range-valid (whole_number d) n h

unwrapped : (o : Option ℕ) (n : ℕ) → is_none o ≡ false → unwrap_or o 0 ≡ n → o ≡ Some n
unwrapped None n h e = cc
unwrapped (Some m) n h e = ap Some e

pub numbers-valid : (is_taken : ℕ → Bool) (d : Data) (numbers : Numbers) → numbers_in is_taken d ≡ Ok numbers → (is_number numbers.id ≡ true) × (is_number numbers.priority ≡ true)
unfolding numbers_in
numbers-valid is_taken d numbers h =
    let p = all_passed (number_tests is_taken d) (numbers_of d) numbers h in
    let two = rest_pass p.0 in
    let four = rest_pass (rest_pass two) in (
      id-valid (get (codes "id") d) numbers.id (unwrapped (id_of d) numbers.id (not_refused (is_none (id_of d)) BadId (first_none two)) (ap (λ n. n.id) p.1)),
      priority-valid (get (codes "priority") d) numbers.priority
          (unwrapped (priority_of d) numbers.priority (not_refused (is_none (priority_of d)) BadPriority (first_none four)) (ap (λ n. n.priority) p.1)),
    )

-- ---- filters

same_text : (a b c d : Bool) (text other : List ℕ) → cond a (Err Empty) (cond b (Err TooLong) (cond c (Err AnchorStar) (cond d (Ok text) (Err NotAscii)))) ≡ Ok other → text ≡ other
same_text true b c d text other h = cc
same_text false true c d text other h = cc
same_text false false true d text other h = cc
same_text false false false true text other h = cc
same_text false false false false text other h = cc

pattern_there : (reading : Result (List ℕ) PatternRefusal) → option_map BadUrlFilter (result_err reading) ≡ None → (pattern : List ℕ) × (reading ≡ Ok pattern)
pattern_there (Ok pattern) h = (pattern, refl)
pattern_there (Err refusal) h = cc

url_filter-valid : (o : Option (List ℕ)) → url_filter_test o ≡ None → IfSome o (λ text. pattern_of text ≡ Ok text)
url_filter-valid None h = tt
url_filter-valid (Some text) h =
    let p = pattern_there (pattern_of text) h in
    let same = same_text (length text == 0) (nat_lt max_pattern (length text)) (starts_with nat_eq text (codes "||*")) (list_all is_ascii text) text p.0 p.1 in
    p.1 ∙ ap Ok (sym same)

not_not : (b : Bool) → not b ≡ false → b ≡ true
not_not true h = refl
not_not false h = cc

there_is : {X : Type 0} (o : Option X) → is_none o ≡ false → is_some o ≡ true
there_is None h = cc
there_is (Some x) h = refl

all_more : (a b : Bool) → a ≡ true → b ≡ true → (a && b) ≡ true
all_more true b p q = q
all_more false b p q = cc

both : (a b : Bool) → (a && b) ≡ true → (a ≡ true) × (b ≡ true)
both true b h = (refl, h)
both false b h = cc

regex_filter-valid : (o : Option (List ℕ)) → regex_text_test o ≡ None → pattern_test o ≡ None → IfSome o (λ text. IsTrue (is_regex_filter text))
regex_filter-valid None h e = tt
regex_filter-valid (Some text) h e =
    all_more (is_regex_text text) (is_some (groups_of text)) (not_not (is_regex_text text) (not_refused (not (is_regex_text text)) BadRegex h))
    (there_is (groups_of text) (not_refused (is_none (groups_of text)) BadRegex e))

one_of : {X Y : Type 0} (a : Option X) (b : Option Y) → (is_some a && is_some b) ≡ false → (is_none a || is_none b) ≡ true
one_of None b h = refl
one_of (Some x) None h = refl
one_of (Some x) (Some y) h = cc

pub record AreFilters (f : Fields) : Type 0 where
  pub one_filter : IsTrue (is_none f.url_filter || is_none f.regex_filter)
  pub url_filter : IfSome f.url_filter (λ text. pattern_of text ≡ Ok text)
  pub regex_filter : IfSome f.regex_filter (λ text. IsTrue (is_regex_filter text))

pub filters-valid : (f : Fields) → filters_in f ≡ Ok tt → AreFilters f
unfolding filters_in
filters-valid f h =
    let one = (all_passed (filter_tests f) tt tt h).0 in
    let two = rest_pass one in
    record {
      one_filter = one_of f.url_filter f.regex_filter (not_refused (is_some f.url_filter && is_some f.regex_filter) BothFilters (first_none one));
      url_filter = url_filter-valid f.url_filter (first_none two);
      regex_filter = regex_filter-valid f.regex_filter (first_none (rest_pass two)) (first_none (rest_pass (rest_pass two)));
    }

-- ---- lists

given_is : (field : RulePath) (list : List (List ℕ)) (reading : Result (List (List ℕ)) DomainRefusal) (o : Option (List (List ℕ))) → domains_of list ≡ reading → given_domains field reading ≡ Ok o
    → (domains : List (List ℕ)) × (o ≡ Some domains) × (domains_of list ≡ Ok domains)
given_is field list (Ok domains) o is h = (domains, cc, is)
given_is field list (Err refusal) o is h = cc

lowered : (list domains : List (List ℕ)) (place : Option ℕ) → unless_bad list place ≡ Ok domains → length domains ≡ length list
lowered list domains None h = let same : map lower_case list ≡ domains = cc in ap length (sym same) ∙ length-map list lower_case
lowered list domains (Some place) h = cc

domains-valid : (field : RulePath) (texts o : Option (List (List ℕ))) → domains_from field texts ≡ Ok o → IfSome o AreDomains
domains-valid field None o h = let same : None ≡ o = cc in subst (λ p. IfSome p AreDomains) same tt
domains-valid field (Some list) o h =
    let g = given_is field list (domains_of list) o refl h in
    subst (λ p. IfSome p AreDomains) (sym g.1) (list, g.2)

some_of : {X : Type 0} (list : List X) (field : RulePath) → refused_if (length list == 0) (EmptyList field) ≡ None → 0 < length list
some_of list field h = let apart : (length list == 0) ≡ false = not_refused (length list == 0) (EmptyList field) h in grind (arith, nat_tests)

given_whole : {X : Type 0} (field : RulePath) (o : Option (List X)) → empty_test field o ≡ None → IfSome o (λ list. 0 < length list)
given_whole field None h = tt
given_whole field (Some list) h = some_of list field h

domains-whole : (field other : RulePath) (texts o : Option (List (List ℕ))) → domains_from field texts ≡ Ok o → empty_test other texts ≡ None → IfSome o (λ list. 0 < length list)
domains-whole field other None o h e = let same : None ≡ o = cc in subst (λ p. IfSome p (λ list. 0 < length list)) same tt
domains-whole field other (Some list) o h e =
    let g = given_is field list (domains_of list) o refl h in
    let inside : 0 < length list = some_of list other e in
    subst (λ p. IfSome p (λ list. 0 < length list)) (sym g.1) (subst (λ n. 0 < n) (sym (lowered list g.0 _ g.2)) inside)

either-valid : {X : Type 0} (P : X → Type 0) (a b : Option X) → IfSome a P → IfSome b P → IfSome (either a b) P
either-valid P None b p q = q
either-valid P (Some x) b p q = p

empty-valid : AreDomains []
empty-valid = ([], refl)

or_empty-valid : (o : Option (List (List ℕ))) → IfSome o AreDomains → AreDomains (unwrap_or o [])
or_empty-valid None p = empty-valid
or_empty-valid (Some list) p = p

pub record AreDomainLists (lists : DomainLists) : Type 0 where
  pub initiators : IfSome lists.initiators AreDomains
  pub not_initiators : AreDomains lists.not_initiators
  pub hosts : IfSome lists.hosts AreDomains
  pub not_hosts : AreDomains lists.not_hosts
  pub initiators_whole : IsGivenWhole lists.initiators
  pub hosts_whole : IsGivenWhole lists.hosts

reads : (field : RulePath) (texts : Option (List (List ℕ))) → refusal_in (domains_from field texts) ≡ None → IfSome (list_of (domains_from field texts)) AreDomains
reads field texts h =
    let there = value_there (domains_from field texts) h in
    subst (λ o. IfSome o AreDomains) (sym (ap list_of there.1)) (domains-valid field texts there.0 there.1)

reads_whole : (field : RulePath) (texts : Option (List (List ℕ))) → refusal_in (domains_from field texts) ≡ None → empty_test field texts ≡ None → IsGivenWhole (list_of (domains_from field texts))
reads_whole field texts h e =
    let there = value_there (domains_from field texts) h in
    subst (λ o. IfSome o (λ list. 0 < length list)) (sym (ap list_of there.1)) (domains-whole field field texts there.0 there.1 e)

pub lists-valid : (f : Fields) (lists : DomainLists) → domain_lists_in f ≡ Ok lists → lists_in f ≡ Ok tt → AreDomainLists lists
unfolding domain_lists_in lists_in domains_in
lists-valid f lists h e =
    let read = all_passed (domain_tests f) (domain_lists_of f) lists h in
    let initiators = read.0 in
    let not_initiators = rest_pass initiators in
    let old_initiators = rest_pass not_initiators in
    let old_not_initiators = rest_pass old_initiators in
    let hosts = rest_pass old_not_initiators in
    let not_hosts = rest_pass hosts in
    let whole = (all_passed (list_tests f) tt tt e).0 in
    let second = rest_pass whole in
    subst AreDomainLists read.1 (record {
      initiators = either-valid AreDomains (list_of (domains_from path.InitiatorDomains f.initiators)) (list_of (domains_from path.Domains f.old_initiators))
          (reads path.InitiatorDomains f.initiators (first_none initiators)) (reads path.Domains f.old_initiators (first_none old_initiators));
      not_initiators = or_empty-valid (either (list_of (domains_from path.ExcludedInitiatorDomains f.not_initiators)) (list_of (domains_from path.ExcludedDomains f.old_not_initiators)))
          (either-valid AreDomains (list_of (domains_from path.ExcludedInitiatorDomains f.not_initiators)) (list_of (domains_from path.ExcludedDomains f.old_not_initiators))
          (reads path.ExcludedInitiatorDomains f.not_initiators (first_none not_initiators)) (reads path.ExcludedDomains f.old_not_initiators (first_none old_not_initiators)));
      hosts = reads path.RequestDomains f.hosts (first_none hosts);
      not_hosts = or_empty-valid (list_of (domains_from path.ExcludedRequestDomains f.not_hosts)) (reads path.ExcludedRequestDomains f.not_hosts (first_none not_hosts));
      initiators_whole = either-valid (λ list. 0 < length list) (list_of (domains_from path.InitiatorDomains f.initiators)) (list_of (domains_from path.Domains f.old_initiators))
          (reads_whole path.InitiatorDomains f.initiators (first_none initiators) (first_none whole)) (reads_whole path.Domains f.old_initiators (first_none old_initiators) (first_none second));
      hosts_whole = reads_whole path.RequestDomains f.hosts (first_none hosts) (first_none (rest_pass second));
    })

pub record AreSets (f : Fields) : Type 0 where
  pub kinds : IsGivenWhole f.kinds
  pub methods : IsGivenWhole f.methods
  pub tabs : IsGivenWhole f.tabs
  pub header_tests : IsGivenWhole f.header_tests

pub sets-valid : (f : Fields) → lists_in f ≡ Ok tt → AreSets f
unfolding lists_in
sets-valid f e =
    let kinds = rest_pass (rest_pass (rest_pass (all_passed (list_tests f) tt tt e).0)) in
    let methods = rest_pass kinds in
    let tabs = rest_pass methods in
    record {
      kinds = given_whole path.ResourceTypes f.kinds (first_none kinds);
      methods = given_whole path.RequestMethods f.methods (first_none methods);
      tabs = given_whole path.TabIds f.tabs (first_none tabs);
      header_tests = given_whole path.ResponseHeaders f.header_tests (first_none (rest_pass tabs));
    }

-- ---- tests of response headers

pub record AreTestLists (f : Fields) : Type 0 where
  pub header_tests : IfSome f.header_tests PassTests
  pub not_header_tests : IfSome f.not_header_tests PassTests

tests_pass : (values field : RulePath) (o : Option (List HeaderTest)) → empty_values_test values o ≡ None → header_test field o ≡ None → IfSome o PassTests
tests_pass values field None h e = tt
tests_pass values field (Some tests) h e = record {
  values = not_refused (list_any lists_no_value tests) (EmptyList values) h;
  form = not_not (list_all is_header_test tests) (not_refused (not (list_all is_header_test tests)) (BadHeaderTest field) e);
}

pub tests-valid : (f : Fields) → lists_in f ≡ Ok tt → header_tests_in f ≡ Ok tt → AreTestLists f
unfolding lists_in header_tests_in
tests-valid f h e =
    let values = rest_pass (rest_pass (rest_pass (rest_pass (rest_pass (rest_pass (rest_pass (all_passed (list_tests f) tt tt h).0)))))) in
    let forms = (all_passed (header_test_tests f) tt tt e).0 in
    record {
      header_tests = tests_pass path.ResponseHeaderValues path.ResponseHeaders f.header_tests (first_none values) (first_none forms);
      not_header_tests = tests_pass path.ExcludedResponseHeaderValues path.ExcludedResponseHeaders f.not_header_tests (first_none (rest_pass values)) (first_none (rest_pass forms));
    }

-- ---- lists of one form

more-valid : {X : Type 0} (test : X → Bool) (o : Option X) (rest : Option (List X)) (list : List X) → ((x : X) → o ≡ Some x → test x ≡ true) → ((xs : List X) → rest ≡ Some xs → list_all test xs ≡ true)
    → option_and_then (λ x. option_map (λ xs. x ∷ xs) rest) o ≡ Some list → list_all test list ≡ true
more-valid test None rest list valid later h = cc
more-valid test (Some x) None list valid later h = cc
more-valid test (Some x) (Some xs) list valid later h =
    let same : x ∷ xs ≡ list = cc in subst (λ l. list_all test l ≡ true) same (all_more (test x) (list_all test xs) (valid x refl) (later xs refl))

-- every item of a list passes a test where each form gives what passes it
each-valid : {X : Type 0} (test : X → Bool) (form : Data → Option X) → ((d : Data) (x : X) → form d ≡ Some x → test x ≡ true) → (items : Items) (list : List X) → each form items ≡ Some list → list_all test list ≡ true
each-valid test form valid no_items list h = let same : [] ≡ list = cc in subst (λ l. list_all test l ≡ true) same refl
each-valid test form valid (item d items) list h = more-valid test (form d) (each form items) list (valid d) (each-valid test form valid items) h

list-valid : {X : Type 0} (test : X → Bool) (form : Data → Option X) → ((d : Data) (x : X) → form d ≡ Some x → test x ≡ true) → (o : Option Items) (list : List X) → option_and_then (each form) o ≡ Some list → list_all test list ≡ true
list-valid test form valid None list h = cc
list-valid test form valid (Some items) list h = each-valid test form valid items list h

-- ---- tabs

in_range_tab-valid : (o : Option ℤ) (tab : ℤ) → option_and_then tab_in_range o ≡ Some tab → is_tab tab ≡ true
in_range_tab-valid None tab h = cc
in_range_tab-valid (Some other) tab h = kept is_tab other tab (is_tab other) refl h

tab-valid : (d : Data) (tab : ℤ) → as_tab d ≡ Some tab → is_tab tab ≡ true
tab-valid d tab h = in_range_tab-valid (option_and_then as_i64 (as_number d)) tab h

all_behind : (tabs : List ℤ) (tab : ℤ) → list_all is_tab tabs ≡ true → is_tab tab ≡ true → list_all is_tab (tabs ++ tab ∷ []) ≡ true
all_behind [] tab h e = all_more (is_tab tab) true e refl
all_behind (other ∷ tabs) tab h e =
    let two = both (is_tab other) (list_all is_tab tabs) h in
    all_more (is_tab other) (list_all is_tab (tabs ++ tab ∷ [])) two.0 (all_behind tabs tab two.1 e)

one_of_two : (b : Bool) (tabs others : List ℤ) → list_all is_tab tabs ≡ true → list_all is_tab others ≡ true → list_all is_tab (cond b tabs others) ≡ true
one_of_two true tabs others h e = h
one_of_two false tabs others h e = e

with_tab-valid : (tabs : List ℤ) (tab : ℤ) → list_all is_tab tabs ≡ true → is_tab tab ≡ true → list_all is_tab (with_tab tabs tab) ≡ true
with_tab-valid tabs tab h e = one_of_two (has_tab tabs tab) tabs (tabs ++ tab ∷ []) h (all_behind tabs tab h e)

folded-valid : (earlier tabs : List ℤ) → list_all is_tab earlier ≡ true → list_all is_tab tabs ≡ true → list_all is_tab (fold with_tab earlier tabs) ≡ true
folded-valid earlier [] h e = h
folded-valid earlier (tab ∷ tabs) h e =
    let two = both (is_tab tab) (list_all is_tab tabs) e in
    folded-valid (with_tab earlier tab) tabs (with_tab-valid earlier tab h two.0) two.1

set_of-valid : (o : Option (List ℤ)) (tabs : List ℤ) → ((list : List ℤ) → o ≡ Some list → list_all is_tab list ≡ true) → option_map tab_set o ≡ Some tabs → list_all is_tab tabs ≡ true
set_of-valid None tabs p h = cc
set_of-valid (Some list) tabs p h =
    let same : tab_set list ≡ tabs = cc in
    subst (λ l. list_all is_tab l ≡ true) same (folded-valid [] list refl (p list refl))

tabs_read : (d : Data) (tabs : List ℤ) → as_tabs d ≡ Some tabs → AreTabs tabs
tabs_read d tabs h =
    set_of-valid (option_and_then (each as_tab) (as_array d)) tabs (λ list is. list-valid is_tab as_tab tab-valid (as_array d) list is) h

given_tabs : (field : RulePath) (o : Option (List ℤ)) → ((tabs : List ℤ) → o ≡ Some tabs → AreTabs tabs) → IfSome (field_of (given_field field o)) AreTabs
given_tabs field None p = tt
given_tabs field (Some tabs) p = p tabs refl

tabs_from : (field : RulePath) (o : Option Data) → IfSome (field_of (field_from as_tabs field o)) AreTabs
tabs_from field None = tt
tabs_from field (Some d) = given_tabs field (as_tabs d) (tabs_read d)

pub record AreTabLists (f : Fields) : Type 0 where
  pub tabs : IfSome f.tabs AreTabs
  pub not_tabs : IfSome f.not_tabs AreTabs

fields-tabs : (c : Data) (f : Fields) → fields_in c ≡ Ok f → AreTabLists f
unfolding fields_in field_in
fields-tabs c f h =
    let p = all_passed (field_tests c) (fields_of c) f h in
    subst AreTabLists p.1 (record {
      tabs = tabs_from path.TabIds (get (key_of path.TabIds) c);
      not_tabs = tabs_from path.ExcludedTabIds (get (key_of path.ExcludedTabIds) c);
    })

pub tabs-valid : (d : Data) → refusal_in (fields_in (condition_at d)) ≡ None → AreTabLists (fields_at d)
tabs-valid d h =
    let there = value_there (fields_in (condition_at d)) h in
    subst AreTabLists (sym (ap (λ r. result_unwrap_or r no_fields) there.1)) (fields-tabs (condition_at d) there.0 there.1)

or_no_tabs : (o : Option (List ℤ)) → IfSome o AreTabs → AreTabs (unwrap_or o [])
or_no_tabs None p = refl
or_no_tabs (Some tabs) p = p

-- ---- the condition

pub condition-valid : (f : Fields) (lists : DomainLists) → AreFilters f → AreDomainLists lists → AreSets f → AreTabLists f → AreTestLists f → IsCondition (condition_of f lists)
condition-valid f lists filters domains sets tabs tests = record {
  one_filter = filters.one_filter;
  url_filter = filters.url_filter;
  regex_filter = filters.regex_filter;
  initiators = (domains.initiators_whole, domains.initiators);
  not_initiators = domains.not_initiators;
  hosts = (domains.hosts_whole, domains.hosts);
  not_hosts = domains.not_hosts;
  methods = sets.methods;
  tabs = (sets.tabs, tabs.tabs);
  not_tabs = or_no_tabs f.not_tabs tabs.not_tabs;
  header_tests = (tests_given f.header_tests sets.header_tests, tests_kept f.header_tests tests.header_tests);
  not_header_tests = or_no_tests_kept f.not_header_tests tests.not_header_tests;
}

-- ---- redirects

if_kept : {X : Type 0} (test : X → Bool) (x y : X) (b : Bool) → test x ≡ b → cond b (Some x) None ≡ Some y → test y ≡ true
if_kept test x y b is h = kept test x y b is h

tested-valid : (test : List ℕ → Bool) (o : Option (List ℕ)) (text : List ℕ) → option_and_then (λ t. cond (is_short t && test t) (Some t) None) o ≡ Some text → (is_short text && test text) ≡ true
tested-valid test None text h = cc
tested-valid test (Some t) text h = kept (λ s. is_short s && test s) t text (is_short t && test t) refl h

given_part-valid : {X : Type 0} (P : X → Type 0) (o : Option X) (part : Option X) → ((x : X) → o ≡ Some x → P x) → given_part o ≡ Ok part → IfSome part P
given_part-valid P None part valid h = cc
given_part-valid P (Some x) part valid h = let same : Some x ≡ part = cc in subst (λ p. IfSome p P) same (valid x refl)

part-valid : {X : Type 0} (P : X → Type 0) (form : Data → Option X) (o : Option Data) (part : Option X) → ((d : Data) (x : X) → form d ≡ Some x → P x) → part_from form o ≡ Ok part → IfSome part P
part-valid P form None part valid h = let same : None ≡ part = cc in subst (λ p. IfSome p P) same tt
part-valid P form (Some d) part valid h = given_part-valid P (form d) part (valid d) h

named-valid : (o : Option Scheme) (scheme : Scheme) → option_and_then (λ s. cond (is_new_scheme s) (Some s) None) o ≡ Some scheme → is_new_scheme scheme ≡ true
named-valid None scheme h = cc
named-valid (Some s) scheme h = kept is_new_scheme s scheme (is_new_scheme s) refl h

scheme-valid : (o : Option (List ℕ)) (scheme : Scheme) → option_and_then new_scheme o ≡ Some scheme → is_new_scheme scheme ≡ true
scheme-valid None scheme h = cc
scheme-valid (Some name) scheme h = named-valid (scheme_named name) scheme h

kept_host : (o : Option (List ℕ)) → IfSome o (λ text. IsTrue (is_short text && is_new_host text)) → IfSome (option_map str_to_ascii_lowercase o) IsKeptHost
kept_host None p = tt
kept_host (Some text) p = (text, p, refl)

list_from-valid : {X : Type 0} (test : X → Bool) (form : Data → Option X) → ((d : Data) (x : X) → form d ≡ Some x → test x ≡ true) → (o : Option Data) (list : List X) → list_from form o ≡ Some list → list_all test list ≡ true
list_from-valid test form valid None list h = let same : [] ≡ list = cc in subst (λ l. list_all test l ≡ true) same refl
list_from-valid test form valid (Some d) list h = list-valid test form valid (as_array d) list h

short-valid : (d : Data) (text : List ℕ) → short_text d ≡ Some text → is_short text ≡ true
short-valid d text h = (both (is_short text) true (tested-valid (λ t. true) (as_str d) text h)).0

short_from : (o : Option Data) (text : List ℕ) → option_and_then short_text o ≡ Some text → is_short text ≡ true
short_from None text h = cc
short_from (Some d) text h = short-valid d text h

pair_from-valid : (key value : Option (List ℕ)) (flag : Option Bool) (pair : QueryPair) → ((k : List ℕ) → key ≡ Some k → is_short k ≡ true) → ((v : List ℕ) → value ≡ Some v → is_short v ≡ true)
    → pair_from key value flag ≡ Some pair → is_short_pair pair ≡ true
pair_from-valid None value flag pair p q h = cc
pair_from-valid (Some key) None flag pair p q h = cc
pair_from-valid (Some key) (Some value) None pair p q h = cc
pair_from-valid (Some key) (Some value) (Some flag) pair p q h =
    let same : record { key = key; value = value; replace_only = flag } ≡ pair = cc in
    subst (λ r. is_short_pair r ≡ true) same (all_more (is_short key) (is_short value) (p key refl) (q value refl))

pair-valid : (d : Data) (pair : QueryPair) → as_pair d ≡ Some pair → is_short_pair pair ≡ true
pair-valid d pair h =
    pair_from-valid _ _ _ pair (short_from (get (codes "key") d)) (short_from (get (codes "value") d)) h

few-valid : (few : Bool) (remove : List (List ℕ)) (add : List QueryPair) (changes : QueryTransform) → nat_le (length remove + length add) 1024 ≡ few → list_all is_short remove ≡ true → list_all is_short_pair add ≡ true
    → cond few (Some (record { remove = remove; add = add })) None ≡ Some changes → AreChanges changes
few-valid true remove add changes few keys pairs h =
    let same : record { remove = remove; add = add } ≡ changes = cc in
    subst AreChanges same (record { few = grind (arith, nat_tests); keys = keys; pairs = pairs })
few-valid false remove add changes few keys pairs h = cc

changes_from-valid : (remove : Option (List (List ℕ))) (add : Option (List QueryPair)) (changes : QueryTransform) → ((keys : List (List ℕ)) → remove ≡ Some keys → list_all is_short keys ≡ true)
    → ((pairs : List QueryPair) → add ≡ Some pairs → list_all is_short_pair pairs ≡ true) → changes_from remove add ≡ Some changes → AreChanges changes
changes_from-valid None add changes p q h = cc
changes_from-valid (Some remove) None changes p q h = cc
changes_from-valid (Some remove) (Some add) changes p q h = few-valid (nat_le (length remove + length add) 1024) remove add changes refl (p remove refl) (q add refl) h

object-valid : (b : Bool) (o : Option QueryTransform) (changes : QueryTransform) → cond b o None ≡ Some changes → o ≡ Some changes
object-valid true o changes h = h
object-valid false o changes h = cc

changes-valid : (d : Data) (changes : QueryTransform) → as_changes d ≡ Some changes → AreChanges changes
changes-valid d changes h =
    changes_from-valid _ _ changes (list_from-valid is_short short_text short-valid (get (codes "removeParams") d))
    (list_from-valid is_short_pair as_pair pair-valid (get (codes "addOrReplaceParams") d)) (object-valid (is_some (as_object d)) _ changes h)

part_reads : {X : Type 0} (P : X → Type 0) (form : Data → Option X) (o : Option Data) → ((d : Data) (x : X) → form d ≡ Some x → P x) → refusal_in (part_from form o) ≡ None → IfSome (part_of (part_from form o)) P
part_reads P form o valid h =
    let there = value_there (part_from form o) h in
    subst (λ p. IfSome p P) (sym (ap part_of there.1)) (part-valid P form o there.0 valid there.1)

text_reads : (test : List ℕ → Bool) (o : Option Data) → refusal_in (part_from (tested_text test) o) ≡ None → IsPart test (part_of (part_from (tested_text test) o))
text_reads test o h = part_reads (λ text. IsTrue (is_short text && test text)) (tested_text test) o (λ d text is. tested-valid test (as_str d) text is) h

or_true : (b : Bool) → (b || true) ≡ true
or_true true = refl
or_true false = refl

absent_or : {X Y : Type 0} (query changes : Option Data) (form : Data → Option X) (other : Data → Option Y) → (is_some query && is_some changes) ≡ false
    → (is_none (part_of (part_from form query)) || is_none (part_of (part_from other changes))) ≡ true
absent_or None changes form other h = refl
absent_or (Some query) None form other h = or_true (is_none (part_of (part_from form (Some query))))
absent_or (Some query) (Some changes) form other h = cc

pub transform-valid : (d : Data) (transform : Transform) → transform_in d ≡ Ok transform → IsTransform transform
unfolding transform_in part_in
transform-valid d transform h =
    let read = all_passed (transform_tests d) (transform_of d) transform h in
    let scheme = rest_pass read.0 in
    let host = rest_pass scheme in
    let port = rest_pass host in
    let path = rest_pass port in
    let query = rest_pass path in
    let changes = rest_pass query in
    let one = rest_pass changes in
    let fragment = rest_pass one in
    let username = rest_pass fragment in
    let password = rest_pass username in
    let new_query = get (codes "query") d in
    let new_changes = get (codes "queryTransform") d in
    subst IsTransform read.1 (record {
      scheme = part_reads (λ s. IsTrue (is_new_scheme s)) as_new_scheme (get (codes "scheme") d) (λ e s is. scheme-valid (as_str e) s is) (first_none scheme);
      host = kept_host (part_of (part_from (tested_text is_new_host) (get (codes "host") d))) (text_reads is_new_host (get (codes "host") d) (first_none host));
      port = text_reads is_new_port (get (codes "port") d) (first_none port);
      path = text_reads is_new_path (get (codes "path") d) (first_none path);
      query = text_reads is_new_query new_query (first_none query);
      changes = part_reads AreChanges as_changes new_changes changes-valid (first_none changes);
      one_query = absent_or new_query new_changes (tested_text is_new_query) as_changes (not_refused (is_some new_query && is_some new_changes) BadTransform (first_none one));
      fragment = text_reads is_new_fragment (get (codes "fragment") d) (first_none fragment);
      username = text_reads (λ text. true) (get (codes "username") d) (first_none username);
      password = text_reads (λ text. true) (get (codes "password") d) (first_none password);
    })

made_by : (groups : Option ℕ) (make : List ℕ → Redirect) (o : Option (List ℕ)) (target : Redirect) → ((text : List ℕ) → o ≡ Some text → IsRedirect groups (make text)) → or_bad_redirect (option_map make o) ≡ Ok target → IsRedirect groups target
made_by groups make None target valid h = cc
made_by groups make (Some text) target valid h = let same : make text ≡ target = cc in subst (IsRedirect groups) same (valid text refl)

extension-valid : (groups : Option ℕ) (d : Data) (target : Redirect) → extension_in d ≡ Ok target → IsRedirect groups target
unfolding extension_in
extension-valid groups d target h = made_by groups redirect.ExtensionPath (tested_text is_extension_path d) target (λ path is. tested-valid is_extension_path (as_str d) path is) h

passes-valid : (test : List ℕ → Bool) (o : Option (List ℕ)) (text : List ℕ) → option_and_then (if_passes test) o ≡ Some text → test text ≡ true
passes-valid test None text h = cc
passes-valid test (Some t) text h = kept test t text (test t) refl h

url-valid : (groups : Option ℕ) (d : Data) (target : Redirect) → url_in d ≡ Ok target → IsRedirect groups target
unfolding url_in
url-valid groups d target h = made_by groups redirect.Url (option_and_then (if_passes is_redirect_url) (as_str d)) target (λ url is. passes-valid is_redirect_url (as_str d) url is) h

substitution-valid : (groups : Option ℕ) (d : Data) (target : Redirect) → substitution_in groups d ≡ Ok target → IsRedirect groups target
unfolding substitution_in
substitution-valid groups d target h =
    made_by groups redirect.RegexSubstitution (option_and_then (if_passes (is_substitution groups)) (as_str d)) target (λ text is. passes-valid (is_substitution groups) (as_str d) text is) h

transformed-valid : (groups : Option ℕ) (reading : Result Transform RuleRefusal) (target : Redirect) → ((t : Transform) → reading ≡ Ok t → IsTransform t) → transformed_by reading ≡ Ok target → IsRedirect groups target
transformed-valid groups (Ok transform) target valid h = let same : redirect.Transform transform ≡ target = cc in subst (IsRedirect groups) same (valid transform refl)
transformed-valid groups (Err refusal) target valid h = cc

redirect_from-valid : (groups : Option ℕ) (path transform url text : Option Data) (target : Redirect) → redirect_from groups path transform url text ≡ Ok target → IsRedirect groups target
redirect_from-valid groups (Some path) None None None target h = extension-valid groups path target h
redirect_from-valid groups None (Some transform) None None target h = transformed-valid groups (transform_in transform) target (transform-valid transform) h
redirect_from-valid groups None None (Some url) None target h = url-valid groups url target h
redirect_from-valid groups None None None (Some text) target h = substitution-valid groups text target h
redirect_from-valid groups path transform url text target h = cc

redirect_at-valid : (groups : Option ℕ) (o : Option Data) (target : Redirect) → redirect_at groups o ≡ Ok target → IsRedirect groups target
redirect_at-valid groups None target h = cc
redirect_at-valid groups (Some d) target h =
    redirect_from-valid groups (get (codes "extensionPath") d) (get (codes "transform") d) (get (codes "url") d) (get (codes "regexSubstitution") d) target h

pub redirect-valid : (groups : Option ℕ) (d : Data) (target : Redirect) → redirect_in groups d ≡ Ok target → IsRedirect groups target
unfolding redirect_in
redirect-valid groups d target h = redirect_at-valid groups (get (codes "redirect") d) target h

-- ---- header changes

made_op : (a b c e g : Bool) (name : List ℕ) (operation : Operation) (value : Option (List ℕ)) (op : HeaderOp)
    → cond a (Err BadName) (cond b (Err BadValue) (cond c (Err ValueMissing) (cond e (Err ValueGiven) (cond g (Err AppendNotAllowed) (Ok (record { name = name; operation = operation; value = value })))))) ≡ Ok op
    → (op.operation ≡ operation) × (op.value ≡ value)
made_op true b c e g name operation value op h = cc
made_op false true c e g name operation value op h = cc
made_op false false true e g name operation value op h = cc
made_op false false false true g name operation value op h = cc
made_op false false false false true name operation value op h = cc
made_op false false false false false name operation value op h =
    let same : record { name = name; operation = operation; value = value } ≡ op = cc in (ap (λ o. o.operation) (sym same), ap (λ o. o.value) (sym same))

op-valid : (direction : Direction) (change : Change) (op : HeaderOp) → read_change direction change ≡ Ok op → IsOperation direction op
op-valid direction change op h =
    let same = made_op (not (is_name change.header)) (has_bad_value change.value) (needs_value change.operation && is_none change.value)
    (not (needs_value change.operation) && is_some change.value) (is_append change.operation && not (may_append direction change.header))
    (str_to_ascii_lowercase change.header) change.operation change.value op h in
    (change.header, subst (λ v. header_op_of direction change.header op.operation v ≡ Ok op) (sym same.1) (subst (λ o. header_op_of direction change.header o change.value ≡ Ok op) (sym same.0) h))

with_op-valid : (direction : Direction) (reading : Result HeaderOp HeaderRefusal) (rest : Result (List HeaderOp) HeaderRefusal) (ops : List HeaderOp)
    → ((op : HeaderOp) → reading ≡ Ok op → IsOperation direction op) → ((others : List HeaderOp) → rest ≡ Ok others → AreOperations direction others)
    → with_op reading rest ≡ Ok ops → AreOperations direction ops
with_op-valid direction (Err refusal) rest ops p q h = cc
with_op-valid direction (Ok op) (Err refusal) ops p q h = cc
with_op-valid direction (Ok op) (Ok others) ops p q h = let same : op ∷ others ≡ ops = cc in subst (AreOperations direction) same (p op refl, q others refl)

ops-valid : (direction : Direction) (changes : List Change) (ops : List HeaderOp) → ops_of direction changes ≡ Ok ops → AreOperations direction ops
ops-valid direction [] ops h = let same : [] ≡ ops = cc in subst (AreOperations direction) same tt
ops-valid direction (change ∷ changes) ops h =
    with_op-valid direction (read_change direction change) (ops_of direction changes) ops (op-valid direction change) (ops-valid direction changes) h

with_op-length : (reading : Result HeaderOp HeaderRefusal) (rest : Result (List HeaderOp) HeaderRefusal) (ops : List HeaderOp) → with_op reading rest ≡ Ok ops → 0 < length ops
with_op-length (Err refusal) rest ops h = cc
with_op-length (Ok op) (Err refusal) ops h = cc
with_op-length (Ok op) (Ok others) ops h = let same : op ∷ others ≡ ops = cc in subst (λ l. 0 < length l) same (omega arith)

-- some change gives some operation
ops-some : (direction : Direction) (changes : List Change) (ops : List HeaderOp) → ops_of direction changes ≡ Ok ops → 0 < length changes → 0 < length ops
ops-some direction [] ops h some = absurd (omega (arith, some))
ops-some direction (change ∷ changes) ops h some = with_op-length (read_change direction change) (ops_of direction changes) ops h

op_there : (reading : Result (List HeaderOp) HeaderRefusal) (ops : List HeaderOp) → or_bad_op reading ≡ Ok ops → reading ≡ Ok ops
op_there (Ok other) ops h = let same : other ≡ ops = cc in ap Ok same
op_there (Err refusal) ops h = cc

each_more : {X : Type 0} (o : Option X) (rest : Option (List X)) (list : List X) → option_and_then (λ x. option_map (λ xs. x ∷ xs) rest) o ≡ Some list → 0 < length list
each_more None rest list h = cc
each_more (Some x) None list h = cc
each_more (Some x) (Some xs) list h = let same : x ∷ xs ≡ list = cc in subst (λ l. 0 < length l) same (omega arith)

each-some : {X : Type 0} (form : Data → Option X) (items : Items) (list : List X) → each form items ≡ Some list → is_no_item items ≡ false → 0 < length list
each-some form no_items list h e = cc
each-some form (item d items) list h e = each_more (form d) (each form items) list h

list-some : {X : Type 0} (form : Data → Option X) (o : Option Items) (list : List X) → option_and_then (each form) o ≡ Some list → option_map_or is_no_item o false ≡ false → 0 < length list
list-some form None list h e = cc
list-some form (Some items) list h e = each-some form items list h e

-- a list that is given and not empty has changes
changes-some : (o : Option Data) (changes : List Change) → list_from as_change o ≡ Some changes → is_empty_list o ≡ false → 0 < length changes
changes-some None changes h e = cc
changes-some (Some d) changes h e = list-some as_change (as_array d) changes h e

both_false : (a b : Bool) → (a && b) ≡ false → (a ≡ false) ⊎ (b ≡ false)
both_false true b h = inr h
both_false false b h = inl refl

modified : (a b : Result (List HeaderOp) RuleRefusal) (action : Action) → modifying a b ≡ Ok action
    → (request : List HeaderOp) × (response : List HeaderOp) × (a ≡ Ok request) × (b ≡ Ok response) × (modify_headers request response ≡ action)
modified (Err refusal) b action h = cc
modified (Ok request) (Err refusal) action h = cc
modified (Ok request) (Ok response) action h = (request, response, refl, refl, cc)

modify_reads : (a b : Option (List Change)) (action : Action) → modify_from a b ≡ Ok action
    → (request : List Change) × (response : List Change) × (a ≡ Some request) × (b ≡ Some response) × (modifying (ops_in direction.Request request) (ops_in direction.Response response) ≡ Ok action)
modify_reads None b action h = cc
modify_reads (Some request) None action h = cc
modify_reads (Some request) (Some response) action h = (request, response, refl, refl, h)

else_is : (e : Bool) (refusal : RuleRefusal) (reading : Result Action RuleRefusal) (action : Action) → cond e (Err refusal) reading ≡ Ok action → (e ≡ false) × (reading ≡ Ok action)
else_is true refusal reading action h = cc
else_is false refusal reading action h = (refl, h)

pub modify-valid : (condition : Condition) (d : Data) (action : Action) → modify_in d ≡ Ok action → IsAction condition action
unfolding modify_in changes_at ops_in
modify-valid condition d action h =
    let asked = get (codes "requestHeaders") d in
    let answered = get (codes "responseHeaders") d in
    let some = else_is (is_empty_list asked && is_empty_list answered) (BadHeader NoHeaders) (modify_from (changes_at asked) (changes_at answered)) action h in
    let m = modify_reads (changes_at asked) (changes_at answered) action some.1 in
    let n = modified (ops_in direction.Request m.0) (ops_in direction.Response m.1) action m.4 in
    let request = op_there (ops_of direction.Request m.0) n.0 n.2 in
    let response = op_there (ops_of direction.Response m.1) n.1 n.3 in
    let count : 0 < length n.0 + length n.1 =
    ⊎_elim
    (λ e. let one : 0 < length n.0 = ops-some direction.Request m.0 n.0 request (changes-some asked m.0 m.2 e) in omega (arith, one))
    (λ e. let one : 0 < length n.1 = ops-some direction.Response m.1 n.1 response (changes-some answered m.1 m.3 e) in omega (arith, one))
    (both_false (is_empty_list asked) (is_empty_list answered) some.0) in
    subst (IsAction condition) n.4 (count, ops-valid direction.Request m.0 n.0 request, ops-valid direction.Response m.1 n.1 response)

-- ---- actions

redirecting-valid : (condition : Condition) (groups : Option ℕ) (reading : Result Redirect RuleRefusal) (action : Action) → filter_groups condition ≡ groups
    → ((target : Redirect) → reading ≡ Ok target → IsRedirect groups target) → redirecting reading ≡ Ok action → IsAction condition action
redirecting-valid condition groups (Ok target) action is valid h =
    let same : rules.redirect target ≡ action = cc in
    subst (IsAction condition) same (subst (λ g. IsRedirect g target) (sym is) (valid target refl))
redirecting-valid condition groups (Err refusal) action is valid h = cc

chain-valid : (P : Action → Type 0) (b c e g i j : Bool) (r m : Result Action RuleRefusal) (action : Action) → P rules.block → P rules.allow → P rules.upgrade_scheme
    → ((a : Action) → r ≡ Ok a → P a) → ((a : Action) → m ≡ Ok a → P a) → (j ≡ true → P rules.allow_all_requests)
    → cond b (Ok rules.block) (cond c r (cond e (Ok rules.allow) (cond g (Ok rules.upgrade_scheme) (cond i m (cond j (Ok rules.allow_all_requests) (Err BadAction)))))) ≡ Ok action → P action
chain-valid P true c e g i j r m action p1 p2 p3 pr pm pj h = let same : rules.block ≡ action = cc in subst P same p1
chain-valid P false true e g i j r m action p1 p2 p3 pr pm pj h = pr action h
chain-valid P false false true g i j r m action p1 p2 p3 pr pm pj h = let same : rules.allow ≡ action = cc in subst P same p2
chain-valid P false false false true i j r m action p1 p2 p3 pr pm pj h = let same : rules.upgrade_scheme ≡ action = cc in subst P same p3
chain-valid P false false false false true j r m action p1 p2 p3 pr pm pj h = pm action h
chain-valid P false false false false false true r m action p1 p2 p3 pr pm pj h = let same : rules.allow_all_requests ≡ action = cc in subst P same (pj refl)
chain-valid P false false false false false false r m action p1 p2 p3 pr pm pj h = cc

named_action-valid : (condition : Condition) (groups : Option ℕ) (d : Data) (name : List ℕ) (action : Action) → filter_groups condition ≡ groups
    → (bytes_eq name (codes "allowAllRequests") ≡ true → are_frame_kinds condition.kinds ≡ true) → action_named groups d name ≡ Ok action → IsAction condition action
named_action-valid condition groups d name action is frames h =
    chain-valid (IsAction condition) (bytes_eq name (codes "block")) (bytes_eq name (codes "redirect")) (bytes_eq name (codes "allow")) (bytes_eq name (codes "upgradeScheme"))
    (bytes_eq name (codes "modifyHeaders")) (bytes_eq name (codes "allowAllRequests")) (redirecting (redirect_in groups d)) (modify_in d) action tt tt tt
    (λ a read. redirecting-valid condition groups (redirect_in groups d) a is (redirect-valid groups d) read) (λ a read. modify-valid condition d a read) frames h

typed_action-valid : (condition : Condition) (groups : Option ℕ) (d : Data) (o : Option (List ℕ)) (action : Action) → filter_groups condition ≡ groups
    → (is_allow_all o ≡ true → are_frame_kinds condition.kinds ≡ true) → or_bad_action (λ name. action_named groups d name) o ≡ Ok action → IsAction condition action
typed_action-valid condition groups d None action is frames h = cc
typed_action-valid condition groups d (Some name) action is frames h = named_action-valid condition groups d name action is frames h

pub action-valid : (condition : Condition) (groups : Option ℕ) (o : Option Data) (action : Action) → filter_groups condition ≡ groups
    → (is_allow_all (type_of o) ≡ true → are_frame_kinds condition.kinds ≡ true) → action_in groups o ≡ Ok action → IsAction condition action
unfolding action_in
action-valid condition groups None action is frames h = cc
action-valid condition groups (Some d) action is frames h = typed_action-valid condition groups d (text_at (codes "type") d) action is frames h

-- ---- the rule

unit_there : (reading : Result (Unit {0}) RuleRefusal) → refusal_in reading ≡ None → reading ≡ Ok tt
unit_there (Ok x) h = refl
unit_there (Err refusal) h = cc

frames_given : (a b : Bool) → (a && not b) ≡ false → a ≡ true → b ≡ true
frames_given true true h e = refl
frames_given true false h e = cc
frames_given false b h e = cc

frames-valid : (o excluded : Option (List Kind)) → gives_frames o ≡ true → IsGivenWhole o → are_frame_kinds (kinds_from o excluded) ≡ true
frames-valid None excluded h w = cc
frames-valid (Some kinds) excluded h w = all_more (nat_le 1 (length kinds)) (list_all is_frame_kind kinds) (grind (arith, nat_tests)) h

frames_pass : (action : Option Data) (f : Fields) → frames_in action f ≡ Ok tt → (is_allow_all (type_of action) && not (gives_frames f.kinds)) ≡ false
unfolding frames_in
frames_pass action f h =
    not_refused (is_allow_all (type_of action) && not (gives_frames f.kinds)) AllowAllTypes
    (passed (refused_if (is_allow_all (type_of action) && not (gives_frames f.kinds)) AllowAllTypes) tt tt h).0

pub rules_keep_their_form : RulesKeepTheirForm
unfolding rule_in
rules_keep_their_form kind is_taken d rule h =
    let read = all_passed (rule_tests kind is_taken d) (rule_of is_taken d) rule h in
    let behind_numbers = rest_pass read.0 in
    let behind_fields = rest_pass behind_numbers in
    let behind_filters = rest_pass behind_fields in
    let behind_domains = rest_pass behind_filters in
    let behind_lists = rest_pass behind_domains in
    let behind_frames = rest_pass behind_lists in
    let behind_tests = rest_pass behind_frames in
    let behind_tabs = rest_pass behind_tests in
    let f = fields_at d in
    let numbers = value_there (numbers_in is_taken d) (first_none read.0) in
    let filters = unit_there (filters_in f) (first_none behind_fields) in
    let domains = value_there (domain_lists_in f) (first_none behind_filters) in
    let whole = unit_there (lists_in f) (first_none behind_domains) in
    let frames = unit_there (frames_in (get (codes "action") d) f) (first_none behind_lists) in
    let tests = tests-valid f whole (unit_there (header_tests_in f) (first_none behind_frames)) in
    let acts = value_there (action_in (groups_at d) (get (codes "action") d)) (first_none behind_tabs) in
    let valid = numbers-valid is_taken d numbers.0 numbers.1 in
    let sets = sets-valid f whole in
    let tabs = tabs-valid d (first_none behind_numbers) in
    let numbers_are = ap (λ r. result_unwrap_or r no_numbers) (sym numbers.1) in
    let lists_are = ap (λ r. result_unwrap_or r no_lists) (sym domains.1) in
    let action_is = ap (λ r. result_unwrap_or r rules.block) (sym acts.1) in
    subst IsRule read.1 (record {
      id = subst (λ n. IsTrue (is_number n.id)) numbers_are valid.0;
      priority = subst (λ n. IsTrue (is_number n.priority)) numbers_are valid.1;
      condition = subst (λ lists. IsCondition (condition_of f lists)) lists_are (condition-valid f domains.0 (filters-valid f filters) (lists-valid f domains.0 domains.1 whole) sets tabs tests);
      action = subst (λ a. IsAction (condition_of f (lists_at d)) a) action_is
          (action-valid (condition_of f (lists_at d)) (groups_at d) (get (codes "action") d) acts.0 refl
          (λ all. frames-valid f.kinds f.not_kinds (frames_given (is_allow_all (type_of (get (codes "action") d))) (gives_frames f.kinds) (frames_pass (get (codes "action") d) f frames) all) sets.kinds) acts.1);
    })
