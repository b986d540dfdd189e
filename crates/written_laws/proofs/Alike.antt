-- A rule and its normal form.
use Rattle.std.proofs.Common.{◌≡◌, ℕ, ℤ, List, [], ◌∷◌, map, false, not, ◌&&◌, ◌||◌, Option, Some, None, refl, ap}
use Rattle.std.specs.Prelude.{codes, option_map, if◌then◌else◌}
use Rattle.std.specs.List.{list_all}
use Rattle.serde_json.specs.Data.{Data, number, unsigned, string, array}
use Rattle.serde_json.specs.View.{items_of}
use Rattle.serde_json.specs.Written.{compact_text}
use Rattle.dnr_base.specs.declared.kind.Kind.{Kind}
use Rattle.dnr_base.specs.declared.kind.Kind.TheVariants.{MainFrame}
use Rattle.dnr_base.specs.Kind.{default_kinds}
use Rattle.dnr_base.specs.declared.method.Method.{Method}
use Rattle.dnr_base.specs.declared.scheme.Scheme.{Scheme}
use Rattle.dnr_base.specs.View.{host_of}
use Rattle.dnr_base.specs.Request.{Part}
use Rattle.dnr_spec.specs.Suffixes.{SuffixRule}
use Rattle.dnr_spec.specs.Domains.{covers, covers_some}
use Rattle.dnr_spec.specs.Party.{is_third_party}
use Rattle.header_actions.specs.Again.{ReadsAgain}
use Rattle.rule_spec.specs.declared.rule_kind.RuleKind.TheVariants.{Session}
use Rattle.rule_spec.specs.Rule.{Condition, Rule}
use Rattle.rule_spec.specs.Holds.{fits_url, has_match, is_among, is_from, is_not_from, is_party, has_methods, is_by, is_not_by, has_tab, is_in, holds_on, has_response, has_no_response}
use Rattle.json_spec.specs.ReadRule.{RulesKeepTheirForm}
use Rattle.json_spec.specs.RuleFields.{kind_set, method_set}
use Rattle.json_spec.specs.Written.{object_of, written_list, unless_empty, if_true, ascending_domains, ascending_tabs, domains_written, tab_written, tabs_written, kind_written, are_default, kinds_written, exclusion_of, exclusion_written, method_written, methods_written, party_written, condition_written, action_written, rule_written, test_written}
use Rattle.written_laws.specs.Normal.{normal_condition, normal}
use Rattle.written_laws.specs.Alike.{NormalRulesHoldAlike, NormalRulesAreRules, NormalRulesAreWrittenAlike, NormalRulesStay}
use Rattle.written_laws.proofs.Sets.{domains_any, domains_again, tabs_any, tabs_again}
use Rattle.written_laws.proofs.TypeSets.{has_kind-set, kind_set-set, has_method-set, method_set-set}
use Rattle.written_laws.proofs.Rules.{rule_read}

-- ---- the parts that a rule holds on

covered : (domains : List (List ℕ)) (host : List ℕ) → covers_some (ascending_domains domains) host ≡ covers_some domains host
covered domains host = domains_any (λ entry. covers entry host) domains

among : (o : Option (List (List ℕ))) (host : List ℕ) → is_among (option_map ascending_domains o) host ≡ is_among o host
among None host = refl
among (Some domains) host = covered domains host

from : (o : Option (List (List ℕ))) (initiator : Option (List ℕ)) → is_from (option_map ascending_domains o) initiator ≡ is_from o initiator
from None initiator = refl
from (Some domains) None = refl
from (Some domains) (Some host) = covered domains host

not_from : (domains : List (List ℕ)) (initiator : Option (List ℕ)) → is_not_from (ascending_domains domains) initiator ≡ is_not_from domains initiator
not_from domains None = refl
not_from domains (Some host) = ap not (covered domains host)

by_method : (o : Option (List Method)) (scheme : Scheme) (method : Method) → is_by (option_map method_set o) scheme method ≡ is_by o scheme method
by_method None scheme method = refl
by_method (Some methods) scheme method = ap (λ b. has_methods scheme && b) (has_method-set methods method)

not_by_method : (methods : List Method) (scheme : Scheme) (method : Method) → is_not_by (method_set methods) scheme method ≡ is_not_by methods scheme method
not_by_method methods scheme method = ap (λ b. not (has_methods scheme) || not b) (has_method-set methods method)

tab_there : (tabs : List ℤ) (tab : ℤ) → has_tab (ascending_tabs tabs) tab ≡ has_tab tabs tab
tab_there tabs tab = tabs_any _ tabs

in_tab : (o : Option (List ℤ)) (tab : ℤ) → is_in (option_map ascending_tabs o) tab ≡ is_in o tab
in_tab None tab = refl
in_tab (Some tabs) tab = tab_there tabs tab

holds_alike : (suffixes : List SuffixRule) (c : Condition) (part : Part) → holds_on suffixes (normal_condition c) part ≡ holds_on suffixes c part
holds_alike suffixes c part =
    let host = host_of part.view in
    let kinds = has_kind-set c.kinds part.kind in
    let by = by_method c.methods part.view.scheme part.method in
    let not_by = not_by_method c.not_methods part.view.scheme part.method in
    let tabs = in_tab c.tabs part.tab in
    let not_tabs = tab_there c.not_tabs part.tab in
    let hosts = among c.hosts host in
    let not_hosts = covered c.not_hosts host in
    let initiators = from c.initiators part.initiator in
    let not_initiators = not_from c.not_initiators part.initiator in
    λ i. kinds i
    && by i
    && not_by i
    && tabs i
    && not (not_tabs i)
    && hosts i
    && not (not_hosts i)
    && fits_url c.url_filter (not c.case_sensitive) part.view
    && initiators i
    && not_initiators i
    && is_party c.third_party (is_third_party suffixes host part.initiator)
    && has_response c.header_tests part.response_headers
    && has_no_response c.not_header_tests part.response_headers
    && has_match c.regex_filter (not c.case_sensitive) part.view

pub normal_rules_hold_alike : NormalRulesHoldAlike
normal_rules_hold_alike suffixes rule part = holds_alike suffixes rule.condition part

-- ---- the form

pub normal_rules_are_rules : ReadsAgain → RulesKeepTheirForm → NormalRulesAreRules
normal_rules_are_rules again keep rule is = keep Session (λ id. false) (rule_written rule) (normal rule) (rule_read rule again Session (λ id. false) is refl refl)

given_again : {X : Type 0} (f : X → X) → ((x : X) → f (f x) ≡ f x) → (o : Option X) → option_map f (option_map f o) ≡ option_map f o
given_again f same None = refl
given_again f same (Some x) = ap Some (same x)

condition_again : (c : Condition) → normal_condition (normal_condition c) ≡ normal_condition c
condition_again c = λ i. record {
  url_filter = c.url_filter;
  regex_filter = c.regex_filter;
  case_sensitive = c.case_sensitive;
  initiators = given_again ascending_domains domains_again c.initiators i;
  not_initiators = domains_again c.not_initiators i;
  hosts = given_again ascending_domains domains_again c.hosts i;
  not_hosts = domains_again c.not_hosts i;
  third_party = c.third_party;
  kinds = kind_set-set c.kinds i;
  methods = given_again method_set method_set-set c.methods i;
  not_methods = method_set-set c.not_methods i;
  tabs = given_again ascending_tabs tabs_again c.tabs i;
  not_tabs = tabs_again c.not_tabs i;
  header_tests = c.header_tests;
  not_header_tests = c.not_header_tests;
}

pub normal_rules_stay : NormalRulesStay
normal_rules_stay rule = λ i. record { id = rule.id; priority = rule.priority; condition = condition_again rule.condition i; action = rule.action }

-- ---- the text

given_alike : {X : Type 0} (f : X → X) (form : X → Data) → ((x : X) → form (f x) ≡ form x) → (o : Option X) → option_map form (option_map f o) ≡ option_map form o
given_alike f form same None = refl
given_alike f form same (Some x) = ap Some (same x)

domains_alike : (domains : List (List ℕ)) → domains_written (ascending_domains domains) ≡ domains_written domains
domains_alike domains = ap (written_list string) (domains_again domains)

methods_alike : (methods : List Method) → methods_written (method_set methods) ≡ methods_written methods
methods_alike methods = ap (written_list method_written) (method_set-set methods)

tabs_alike : (tabs : List ℤ) → tabs_written (ascending_tabs tabs) ≡ tabs_written tabs
tabs_alike tabs = ap (written_list tab_written) (tabs_again tabs)

default_alike : (kinds : List Kind) → are_default (kind_set kinds) ≡ are_default kinds
default_alike kinds = λ i. not (has_kind-set kinds MainFrame i) && list_all (λ k. has_kind-set kinds k i) default_kinds

kinds_alike : (kinds : List Kind) → kinds_written (kind_set kinds) ≡ kinds_written kinds
unfolding kinds_written
kinds_alike kinds = λ i. if default_alike kinds i then None else unless_empty (map kind_written (kind_set-set kinds i))

excluded_alike : (kinds : List Kind) → exclusion_written (kind_set kinds) ≡ exclusion_written kinds
unfolding exclusion_written
excluded_alike kinds = ap exclusion_of (kind_set-set kinds)

condition_alike : (c : Condition) → condition_written (normal_condition c) ≡ condition_written c
unfolding condition_written
condition_alike c =
    let initiators = given_alike ascending_domains domains_written domains_alike c.initiators in
    let not_initiators = domains_again c.not_initiators in
    let hosts = given_alike ascending_domains domains_written domains_alike c.hosts in
    let not_hosts = domains_again c.not_hosts in
    let kinds = kinds_alike c.kinds in
    let not_kinds = excluded_alike c.kinds in
    let methods = given_alike method_set methods_written methods_alike c.methods in
    let not_methods = method_set-set c.not_methods in
    let tabs = given_alike ascending_tabs tabs_written tabs_alike c.tabs in
    let not_tabs = tabs_again c.not_tabs in
    λ i. object_of (
    (codes "urlFilter", option_map string c.url_filter)
    ∷ (codes "regexFilter", option_map string c.regex_filter)
    ∷ (codes "isUrlFilterCaseSensitive", if_true c.case_sensitive)
    ∷ (codes "domainType", option_map party_written c.third_party)
    ∷ (codes "initiatorDomains", initiators i)
    ∷ (codes "excludedInitiatorDomains", unless_empty (map string (not_initiators i)))
    ∷ (codes "requestDomains", hosts i)
    ∷ (codes "excludedRequestDomains", unless_empty (map string (not_hosts i)))
    ∷ (codes "resourceTypes", kinds i)
    ∷ (codes "excludedResourceTypes", not_kinds i)
    ∷ (codes "requestMethods", methods i)
    ∷ (codes "excludedRequestMethods", unless_empty (map method_written (not_methods i)))
    ∷ (codes "tabIds", tabs i)
    ∷ (codes "excludedTabIds", unless_empty (map tab_written (not_tabs i)))
    ∷ (codes "responseHeaders", option_map (written_list test_written) c.header_tests)
    ∷ (codes "excludedResponseHeaders", unless_empty (map test_written c.not_header_tests))
    ∷ []
    )

rule_alike : (rule : Rule) → rule_written (normal rule) ≡ rule_written rule
unfolding rule_written
rule_alike rule =
    let condition = condition_alike rule.condition in
    λ i. object_of (
    (codes "id", Some (number (unsigned rule.id)))
    ∷ (codes "priority", Some (number (unsigned rule.priority)))
    ∷ (codes "condition", Some (condition i))
    ∷ (codes "action", Some (action_written rule.action))
    ∷ []
    )

rules_alike : (rules : List Rule) → map rule_written (map normal rules) ≡ map rule_written rules
rules_alike [] = refl
rules_alike (rule ∷ rules) = λ i. rule_alike rule i ∷ rules_alike rules i

pub normal_rules_are_written_alike : NormalRulesAreWrittenAlike
normal_rules_are_written_alike rules = λ i. compact_text (array (items_of (rules_alike rules i)))
