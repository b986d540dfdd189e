-- What is tested of the fields of a written condition, and the condition that is made of them.
use Rattle.std.proofs.Common.{◌≡◌, ℕ, ℤ, suc, ◌<◌, List, [], ◌∷◌, length, map, Bool, true, false, cond, not, ◌&&◌, ◌||◌, ◌==◌, Option, Some, None, Ok, refl, sym, ap, ◌∙◌, arith}
use Rattle.std.specs.Prelude.{IfSome, IsTrue, nat_lt, nat_le, bytes_eq, is_some, is_none, unwrap_or, option_map}
use Rattle.std.specs.List.{list_all, list_any}
use Rattle.std.specs.Option.{option_map_or}
use Rattle.std.specs.Str.{str_to_ascii_lowercase}
use Rattle.std.specs.Result.{result_err}
use Rattle.std.specs.Ordering.{nat_cmp}
use Rattle.std.specs.Cmp.Lexicographic.{slice_cmp}
use Rattle.std.proofs.lemmas.Bool.{true≢false}
use Rattle.std.proofs.lemmas.Bool.Decides.{nat_tests}
use Rattle.std.proofs.lemmas.Slice.Eq.{bytes_eq-Decides}
use Rattle.http_header.specs.FieldName.{is_field_name, is_header_name}
use Rattle.http_header.specs.Token.{lowercase}
use Rattle.dnr_base.specs.Request.{is_short_name}
use Rattle.dnr_base.specs.declared.kind.Kind.{Kind}
use Rattle.dnr_base.specs.Kind.{default_kinds}
use Rattle.dnr_spec.specs.UrlFilter.{pattern_of}
use Rattle.dnr_spec.specs.Patterns.{groups_of}
use Rattle.dnr_spec.specs.Domains.{domains_of}
use Rattle.dnr_spec.specs.HeaderTests.{HeaderTest, are_given_whole, is_header_test, is_kept_test, in_lower_case}
use Rattle.rule_spec.specs.declared.rule_kind.RuleKind.{RuleKind}
use Rattle.rule_spec.specs.declared.rule_path.RulePath.{RulePath}
use Rattle.rule_spec.specs.declared.rule_path.RulePath.TheVariants as path
use Rattle.rule_spec.specs.declared.rule_refusal.RuleRefusal.TheVariants.{BothFilters, BadUrlFilter, BadRegex, EmptyList, BothTypeLists, BadHeaderTest, TabsNotSession}
use Rattle.rule_spec.specs.Rule.{Condition}
use Rattle.rule_spec.specs.IsRule.{is_regex_text, is_regex_filter, AreDomains, AreTests, IsGivenWhole, IsCondition}
use Rattle.json_spec.specs.RuleFields.{first_refusal, refused_if, refusal_in, unless_refused, kind_set, method_set}
use Rattle.json_spec.specs.Written.{are_default, ascending_domains, ascending_tabs}
use Rattle.json_spec.specs.ReadRule.{url_filter_test, regex_text_test, pattern_test, filters_in, given_domains, domains_in, list_of, either, DomainLists, domain_lists_in, empty_test, lists_no_value, empty_values_test, header_test, header_tests_in, lists_in, kinds_from, condition_of, may_name_tabs, tabs_in}
use Rattle.written_laws.specs.Normal.{normal_condition}
use Rattle.written_laws.proofs.Sets.{both, set_some, tabs_some}
use Rattle.written_laws.proofs.TypeSets.{default_set, method_set_some}
use Rattle.written_laws.proofs.Fields.{given_list, given_true, listed_kinds, excluded_of, fields_kept}
use Rattle.written_laws.proofs.Domains.{domains_read}

-- ---- filters

one_given : {X Y : Type 0} (a : Option X) (b : Option Y) → (is_none a || is_none b) ≡ true → (is_some a && is_some b) ≡ false
one_given None b h = refl
one_given (Some x) None h = refl
one_given (Some x) (Some y) h = cc

url_filter-passes : (o : Option (List ℕ)) → IfSome o (λ text. pattern_of text ≡ Ok text) → url_filter_test o ≡ None
url_filter-passes None h = refl
url_filter-passes (Some text) h = ap (λ r. option_map BadUrlFilter (result_err r)) h

regex_text-passes : (o : Option (List ℕ)) → IfSome o (λ text. IsTrue (is_regex_filter text)) → regex_text_test o ≡ None
regex_text-passes None h = refl
regex_text-passes (Some text) h = ap (λ b. refused_if (not b) BadRegex) (both (is_regex_text text) (is_some (groups_of text)) h).0

is_there : {X : Type 0} (o : Option X) → is_some o ≡ true → is_none o ≡ false
is_there None h = cc
is_there (Some x) h = refl

pattern-passes : (o : Option (List ℕ)) → IfSome o (λ text. IsTrue (is_regex_filter text)) → pattern_test o ≡ None
pattern-passes None h = refl
pattern-passes (Some text) h = ap (λ b. refused_if b BadRegex) (is_there (groups_of text) (both (is_regex_text text) (is_some (groups_of text)) h).1)

pub filters_pass : (c : Condition) → IsCondition c → filters_in (fields_kept c) ≡ Ok tt
unfolding filters_in
filters_pass c is =
    let one = one_given c.url_filter c.regex_filter is.one_filter in
    let text = url_filter-passes c.url_filter is.url_filter in
    let regex = regex_text-passes c.regex_filter is.regex_filter in
    let pattern = pattern-passes c.regex_filter is.regex_filter in
    λ i. unless_refused (first_refusal (refused_if (one i) BothFilters ∷ text i ∷ regex i ∷ pattern i ∷ [])) tt

-- ---- domains

domains-read : (field : RulePath) (o : Option (List (List ℕ))) → IfSome o AreDomains → domains_in field (option_map ascending_domains o) ≡ Ok (option_map ascending_domains o)
unfolding domains_in
domains-read field None h = refl
domains-read field (Some list) h = ap (given_domains field) (domains_read list h)

given-domains : (field : RulePath) (list : List (List ℕ)) → domains_of list ≡ Ok list → domains_in field (given_list list) ≡ Ok (given_list list)
unfolding domains_in
given-domains field [] h = refl
given-domains field (text ∷ list) h = ap (given_domains field) h

no-domains : (field : RulePath) → domains_in field None ≡ Ok None
unfolding domains_in
no-domains field = refl

either-none : {X : Type 0} (o : Option X) → either o None ≡ o
either-none None = refl
either-none (Some x) = refl

list-back : {X : Type 0} (list : List X) → unwrap_or (given_list list) [] ≡ list
list-back [] = refl
list-back (x ∷ xs) = refl

-- the domain lists of a written condition
abbrev pub lists_kept : Condition → DomainLists
lists_kept c = record {
  initiators = option_map ascending_domains c.initiators;
  not_initiators = ascending_domains c.not_initiators;
  hosts = option_map ascending_domains c.hosts;
  not_hosts = ascending_domains c.not_hosts;
}

pub lists_are_read : (c : Condition) → IsCondition c → domain_lists_in (fields_kept c) ≡ Ok (lists_kept c)
unfolding domain_lists_in
lists_are_read c is =
    let initiators = domains-read path.InitiatorDomains c.initiators is.initiators.1 in
    let not_initiators = given-domains path.ExcludedInitiatorDomains (ascending_domains c.not_initiators) (domains_read c.not_initiators is.not_initiators) in
    let old_initiators = no-domains path.Domains in
    let old_not_initiators = no-domains path.ExcludedDomains in
    let hosts = domains-read path.RequestDomains c.hosts is.hosts.1 in
    let not_hosts = given-domains path.ExcludedRequestDomains (ascending_domains c.not_hosts) (domains_read c.not_hosts is.not_hosts) in
    (λ i. unless_refused (first_refusal (
    refusal_in (initiators i)
    ∷ refusal_in (not_initiators i)
    ∷ refusal_in (old_initiators i)
    ∷ refusal_in (old_not_initiators i)
    ∷ refusal_in (hosts i)
    ∷ refusal_in (not_hosts i)
    ∷ []
    )) (record {
      initiators = either (list_of (initiators i)) (list_of (old_initiators i));
      not_initiators = unwrap_or (either (list_of (not_initiators i)) (list_of (old_not_initiators i))) [];
      hosts = list_of (hosts i);
      not_hosts = unwrap_or (list_of (not_hosts i)) [];
    }))
    ∙ (λ i. Ok (record {
      initiators = either-none (option_map ascending_domains c.initiators) i;
      not_initiators = unwrap_or (either-none (given_list (ascending_domains c.not_initiators)) i) [];
      hosts = option_map ascending_domains c.hosts;
      not_hosts = list-back (ascending_domains c.not_hosts) i;
    }))
    ∙ (λ i. Ok (record {
      initiators = option_map ascending_domains c.initiators;
      not_initiators = list-back (ascending_domains c.not_initiators) i;
      hosts = option_map ascending_domains c.hosts;
      not_hosts = ascending_domains c.not_hosts;
    }))

-- ---- lists that are given

empty-passes : {X : Type 0} (field : RulePath) (o : Option (List X)) → IsGivenWhole o → empty_test field o ≡ None
empty-passes field None h = refl
empty-passes field (Some list) h = let apart : (length list == 0) ≡ false = grind (arith, nat_tests) in ap (λ b. refused_if b (EmptyList field)) apart

whole_through : {X : Type 0} (f : List X → List X) (o : Option (List X)) → ((list : List X) → 0 < length list → 0 < length (f list)) → IsGivenWhole o → IsGivenWhole (option_map f o)
whole_through f None p h = tt
whole_through f (Some list) p h = p list h

given-whole : {X : Type 0} (b : Bool) (list : List X) → IsGivenWhole (cond b None (given_list list))
given-whole true list = tt
given-whole false [] = tt
given-whole false (x ∷ xs) = omega arith

one_type_list : (b : Bool) (kinds : List Kind) → (is_some (cond b None (given_list kinds)) && is_some (excluded_of kinds)) ≡ false
one_type_list true kinds = refl
one_type_list false [] = refl
one_type_list false (k ∷ kinds) = refl

-- what a test keeps that is kept
record IsKept (test : HeaderTest) : Type 0 where
  low : str_to_ascii_lowercase test.name ≡ test.name
  whole : are_given_whole test.values ≡ true
  passes : is_header_test test ≡ true

kept : (test : HeaderTest) → is_kept_test test ≡ true → IsKept test
unfolding is_kept_test
kept test h =
    let p = both (is_short_name test.name && are_given_whole test.values) (is_header_test test) h in
    let q = both (is_short_name test.name) (are_given_whole test.values) p.0 in
    let name = both (is_header_name test.name) (nat_le (length test.name) 256) q.0 in
    let token = both (is_field_name test.name) (bytes_eq (lowercase test.name) test.name) name.0 in
    record { low = (bytes_eq-Decides (lowercase test.name) test.name).0 token.1; whole = q.1; passes = p.1 }

some_value : (o : Option (List (List ℕ))) → are_given_whole o ≡ true → option_map_or (λ patterns. length patterns == 0) o false ≡ false
some_value None h = refl
some_value (Some []) h = cc
some_value (Some (pattern ∷ patterns)) h = grind (arith, nat_tests)

no_empty_values : (list : List HeaderTest) → AreTests list → list_any lists_no_value list ≡ false
no_empty_values [] h = refl
no_empty_values (test ∷ tests) h =
    let p = both (is_kept_test test) (list_all is_kept_test tests) h in
    let first = some_value test.values (kept test p.0).whole in
    (λ i. first i || list_any lists_no_value tests) ∙ no_empty_values tests p.1

values-pass : (field : RulePath) (o : Option (List HeaderTest)) → IfSome o AreTests → empty_values_test field o ≡ None
values-pass field None h = refl
values-pass field (Some tests) h = ap (λ b. refused_if b (EmptyList field)) (no_empty_values tests h)

all_pass : (list : List HeaderTest) → AreTests list → list_all is_header_test list ≡ true
all_pass [] h = refl
all_pass (test ∷ tests) h =
    let p = both (is_kept_test test) (list_all is_kept_test tests) h in
    let first = (kept test p.0).passes in
    (λ i. first i && list_all is_header_test tests) ∙ all_pass tests p.1

test_list-passes : (field : RulePath) (o : Option (List HeaderTest)) → IfSome o AreTests → header_test field o ≡ None
test_list-passes field None h = refl
test_list-passes field (Some tests) h = ap (λ b. refused_if (not b) (BadHeaderTest field)) (all_pass tests h)

given-are : (list : List HeaderTest) → AreTests list → IfSome (given_list list) AreTests
given-are [] h = tt
given-are (test ∷ tests) h = h

all_low : (list : List HeaderTest) → AreTests list → map in_lower_case list ≡ list
all_low [] h = refl
all_low (test ∷ tests) h =
    let p = both (is_kept_test test) (list_all is_kept_test tests) h in
    let low = (kept test p.0).low in
    let rest = all_low tests p.1 in
    λ i. record { name = low i; values = test.values; excluded = test.excluded } ∷ rest i

given_low : (o : Option (List HeaderTest)) → IfSome o AreTests → option_map (map in_lower_case) o ≡ o
given_low None h = refl
given_low (Some tests) h = ap Some (all_low tests h)

listed_low : (list : List HeaderTest) → AreTests list → map in_lower_case (unwrap_or (given_list list) []) ≡ list
listed_low [] h = refl
listed_low (test ∷ tests) h = all_low (test ∷ tests) h

pub lists_pass : (c : Condition) → IsCondition c → lists_in (fields_kept c) ≡ Ok tt
unfolding lists_in
lists_pass c is =
    let ascending = set_some (slice_cmp nat_cmp) in
    let initiators = empty-passes path.InitiatorDomains (option_map ascending_domains c.initiators) (whole_through ascending_domains c.initiators ascending is.initiators.0) in
    let hosts = empty-passes path.RequestDomains (option_map ascending_domains c.hosts) (whole_through ascending_domains c.hosts ascending is.hosts.0) in
    let kinds = empty-passes path.ResourceTypes (listed_kinds c.kinds) (given-whole (are_default c.kinds) (kind_set c.kinds)) in
    let methods = empty-passes path.RequestMethods (option_map method_set c.methods) (whole_through method_set c.methods method_set_some is.methods) in
    let tabs = empty-passes path.TabIds (option_map ascending_tabs c.tabs) (whole_through ascending_tabs c.tabs tabs_some is.tabs.0) in
    let tests = empty-passes path.ResponseHeaders c.header_tests is.header_tests.0 in
    let values = values-pass path.ResponseHeaderValues c.header_tests is.header_tests.1 in
    let excluded = values-pass path.ExcludedResponseHeaderValues (given_list c.not_header_tests) (given-are c.not_header_tests is.not_header_tests) in
    let types = one_type_list (are_default c.kinds) (kind_set c.kinds) in
    λ i. unless_refused (first_refusal (
    initiators i ∷ None ∷ hosts i ∷ kinds i ∷ methods i ∷ tabs i ∷ tests i ∷ values i ∷ excluded i ∷ refused_if (types i) BothTypeLists ∷ []
    )) tt

-- ---- tests of response headers

pub tests_pass : (c : Condition) → IsCondition c → header_tests_in (fields_kept c) ≡ Ok tt
unfolding header_tests_in
tests_pass c is =
    let tests = test_list-passes path.ResponseHeaders c.header_tests is.header_tests.1 in
    let excluded = test_list-passes path.ExcludedResponseHeaders (given_list c.not_header_tests) (given-are c.not_header_tests is.not_header_tests) in
    λ i. unless_refused (first_refusal (tests i ∷ excluded i ∷ [])) tt

-- ---- tabs

tabs_not_given : (o : Option (List ℤ)) (tabs : List ℤ) → (is_some o || nat_lt 0 (length tabs)) ≡ false → (is_some (option_map ascending_tabs o) || is_some (given_list (ascending_tabs tabs))) ≡ false
tabs_not_given None [] h = refl
tabs_not_given None (tab ∷ tabs) h = let some : nat_lt 0 (suc (length tabs)) ≡ true = grind (arith, nat_tests) in absurd (true≢false (sym some ∙ h))
tabs_not_given (Some list) tabs h = cc

-- tabs are named where they may be, or not at all
pub tabs_pass : (kind : RuleKind) (c : Condition) → (not (may_name_tabs kind) && (is_some c.tabs || nat_lt 0 (length c.not_tabs))) ≡ false → tabs_in kind (fields_kept c) ≡ Ok tt
unfolding tabs_in
tabs_pass kind c h = ap (λ b. unless_refused (refused_if b TabsNotSession) tt) (by (may_name_tabs kind) h)
  where
    by : (may : Bool) → (not may && (is_some c.tabs || nat_lt 0 (length c.not_tabs))) ≡ false → (not may && (is_some (option_map ascending_tabs c.tabs) || is_some (given_list (ascending_tabs c.not_tabs)))) ≡ false
    by true e = refl
    by false e = tabs_not_given c.tabs c.not_tabs e

-- ---- the condition

flag-back : (flag : Bool) → unwrap_or (given_true flag) false ≡ flag
flag-back true = refl
flag-back false = refl

kinds-back : (b : Bool) (kinds : List Kind) → (b ≡ true → kinds ≡ default_kinds) → kinds_from (cond b None (given_list kinds)) (excluded_of kinds) ≡ kinds
kinds-back true kinds h = let same = h refl in ap (λ l. kinds_from None (excluded_of l)) same ∙ sym same
kinds-back false [] h = refl
kinds-back false (k ∷ kinds) h = refl

pub condition_made : (c : Condition) → IsCondition c → condition_of (fields_kept c) (lists_kept c) ≡ normal_condition c
condition_made c is = λ i. record {
  url_filter = c.url_filter;
  regex_filter = c.regex_filter;
  case_sensitive = flag-back c.case_sensitive i;
  initiators = option_map ascending_domains c.initiators;
  not_initiators = ascending_domains c.not_initiators;
  hosts = option_map ascending_domains c.hosts;
  not_hosts = ascending_domains c.not_hosts;
  third_party = c.third_party;
  kinds = kinds-back (are_default c.kinds) (kind_set c.kinds) (default_set c.kinds) i;
  methods = option_map method_set c.methods;
  not_methods = list-back (method_set c.not_methods) i;
  tabs = option_map ascending_tabs c.tabs;
  not_tabs = list-back (ascending_tabs c.not_tabs) i;
  header_tests = given_low c.header_tests is.header_tests.1 i;
  not_header_tests = listed_low c.not_header_tests is.not_header_tests i;
}
