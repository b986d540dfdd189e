-- The rules of a filter list are rules.
use Rattle.std.proofs.Common.{◌≡◌, ℕ, ◌+◌, ◌≤◌, ◌<◌, List, [], ◌∷◌, zero, suc, inl, length, map, true, false, not, Option, Some, None, Ok, refl, ap, ◌∙◌, arith}
use Rattle.std.specs.Prelude.{IsTrue, is_none, is_some, ◌||◌, IfSome, filter, nat_lt, nat_le}
use Rattle.std.specs.List.{position_or_len, filter_map, cons_option, AllByRecursion}
use Rattle.std.proofs.lemmas.Bool.{and_from, cond-true, cond-false, le-leb}
use Rattle.std.proofs.lemmas.Bool.Decides.{nat_tests}
use Rattle.std.proofs.lemmas.List.Elements.{All-from_recursion}
use Rattle.dnr_base.specs.declared.kind.Kind.{Kind}
use Rattle.dnr_spec.specs.Domains.{is_domain, lower_case, unless_bad}
use Rattle.rule_spec.specs.IsRule.{IsRule, IsCondition, AreDomains, IsGivenWhole, is_number}
use Rattle.list_spec.specs.declared.domain_entry.DomainEntry.{DomainEntry}
use Rattle.list_spec.specs.LineKind.{FilterPattern, every_url, plain, regex, FilterLine}
use Rattle.compile_spec.specs.Alike.{plain_domain, ascending}
use Rattle.compile_spec.specs.Initiators.{Initiators, each_once, listed_in, excluded_in, lies_under, those_under, nested, not_nested, in_one, shared, single, in_several, initiators_of}
use Rattle.compile_spec.specs.Compiled.{Placed, placed_from, alike_to, Group, groups_of, Standing, standing_with, standing, effects_of, Effect, blocks, allows, exempts, url_filter_of, regex_filter_of, condition_of, Draft, drafts_with, drafts_of, drafts_in, rule_of, with_ids, compiled}
use Rattle.compile_laws.specs.Laws.{GivesRules, GroupsGiveRules, ListsGiveRules}
use Rattle.compile_laws.proofs.Lists.{Has, In, each_in, in_each, each_weaker, each_filtered, each_mapped, each_joined, each_flat}
use Rattle.compile_laws.proofs.Supported.{IsEntry, IsPattern, IsSupported, supported}
use Rattle.compile_laws.proofs.Plain.{plain_lower, has_domain, has_ascending, each_ascending}
use Rattle.compile_laws.proofs.Likeness.{reads_alike}
use Rattle.compile_laws.proofs.Groups.{filter_in_place, IsPlaced, each_placed, IsGroup, are_groups}

-- ---- domains

-- a domain in lower case
pub record IsLowerDomain (domain : List ℕ) : Type 0 where
  pub reads : is_domain domain ≡ true
  pub lower : lower_case domain ≡ domain

all_lower : (domains : List (List ℕ)) → AllByRecursion IsLowerDomain domains → map lower_case domains ≡ domains
all_lower [] h = refl
all_lower (domain ∷ domains) h = let e = h.0.lower in cc (all_lower domains h.1)

-- none is at fault
none_bad : (domains : List (List ℕ)) → AllByRecursion IsLowerDomain domains → position_or_len (λ entry. not (is_domain entry)) domains ≡ length domains
none_bad [] h = refl
none_bad (domain ∷ domains) h =
    let rest = none_bad domains h.1 in
    cond-true (not (not (is_domain domain))) (1 + position_or_len (λ entry. not (is_domain entry)) domains) 0 (ap (λ b. not (not b)) h.0.reads) ∙ omega arith

pub are_domains : (domains : List (List ℕ)) → AllByRecursion IsLowerDomain domains → AreDomains domains
are_domains domains h =
    let all = none_bad domains h in
    let past : nat_lt (position_or_len (λ entry. not (is_domain entry)) domains) (length domains) ≡ false = grind (arith, nat_tests) in
    (domains, ap (unless_bad domains) (cond-false _ _ _ past) ∙ ap Ok (all_lower domains h))

-- ---- the domains of a filter

each_first : (domains : List (List ℕ)) → AllByRecursion IsLowerDomain domains → AllByRecursion IsLowerDomain (each_once domains)
each_first [] h = tt
each_first (domain ∷ domains) h = (h.0, each_filtered IsLowerDomain _ (each_once domains) (each_first domains h.1))

named : (entries : List DomainEntry) → AllByRecursion IsEntry entries → AllByRecursion (λ entry. IsLowerDomain entry.domain) entries
named entries h = each_weaker IsEntry (λ entry. IsLowerDomain entry.domain) (λ entry e. record { reads = e.domain; lower = e.lower }) entries h

pub listed_domains : (entries : List DomainEntry) → AllByRecursion IsEntry entries → AllByRecursion IsLowerDomain (listed_in entries)
listed_domains entries h =
    let kept = filter (λ entry. not entry.excluded) entries in
    each_first (map (λ entry. entry.domain) kept)
    (each_mapped IsLowerDomain (λ entry. entry.domain) kept (each_filtered (λ entry. IsLowerDomain entry.domain) (λ entry. not entry.excluded) entries (named entries h)))

pub excluded_domains : (entries : List DomainEntry) → AllByRecursion IsEntry entries → AllByRecursion IsLowerDomain (excluded_in entries)
excluded_domains entries h =
    let kept = filter (λ entry. entry.excluded) entries in
    each_first (map (λ entry. entry.domain) kept)
    (each_mapped IsLowerDomain (λ entry. entry.domain) kept (each_filtered (λ entry. IsLowerDomain entry.domain) (λ entry. entry.excluded) entries (named entries h)))

-- ---- the initiators of its rules

-- lists of domains, of which the first is not empty where it is given
pub record AreInitiators (initiators : Initiators) : Type 0 where
  pub whole : IsGivenWhole initiators.among
  pub among : IfSome initiators.among AreDomains
  pub not_among : AreDomains initiators.not_among

if_any : (excluded listed : List (List ℕ)) → AllByRecursion IsLowerDomain excluded → AllByRecursion IsLowerDomain listed → AreInitiators (in_one excluded listed)
if_any excluded [] x l = record { whole = tt; among = tt; not_among = are_domains excluded x }
if_any excluded (domain ∷ domains) x l = record { whole = omega arith; among = are_domains (domain ∷ domains) l; not_among = are_domains excluded x }

if_shared : (excluded listed : List (List ℕ)) → AllByRecursion IsLowerDomain excluded → AllByRecursion IsLowerDomain listed → AllByRecursion AreInitiators (shared excluded listed)
if_shared excluded [] x l = tt
if_shared excluded (domain ∷ domains) x l = (record { whole = omega arith; among = are_domains (domain ∷ domains) l; not_among = are_domains excluded x }, tt)

if_single : (excluded : List (List ℕ)) (domain : List ℕ) → AllByRecursion IsLowerDomain excluded → IsLowerDomain domain → AreInitiators (single excluded domain)
if_single excluded domain x l = record {
  whole = omega arith;
  among = are_domains (domain ∷ []) (l, tt);
  not_among = are_domains (those_under domain excluded) (each_filtered IsLowerDomain (lies_under domain) excluded x);
}

if_several : (excluded listed under : List (List ℕ)) → AllByRecursion IsLowerDomain excluded → AllByRecursion IsLowerDomain listed → AllByRecursion IsLowerDomain under
    → AllByRecursion AreInitiators (in_several excluded listed under)
if_several excluded listed [] x l u = (if_any excluded listed x l, tt)
if_several excluded listed (domain ∷ domains) x l u =
    each_joined AreInitiators (shared excluded (not_nested excluded listed)) (map (single excluded) (domain ∷ domains))
    (if_shared excluded (not_nested excluded listed) x (each_filtered IsLowerDomain _ listed l))
    (each_mapped AreInitiators (single excluded) (domain ∷ domains) (each_weaker IsLowerDomain (λ d. AreInitiators (single excluded d)) (λ d e. if_single excluded d x e) (domain ∷ domains) u))

pub are_initiators : (entries : List DomainEntry) → AllByRecursion IsEntry entries → AllByRecursion AreInitiators (initiators_of entries)
are_initiators entries h =
    let x = excluded_domains entries h in
    let l = listed_domains entries h in
    if_several (excluded_in entries) (listed_in entries) (nested (excluded_in entries) (listed_in entries)) x l (each_filtered IsLowerDomain _ (listed_in entries) l)

-- ---- rules

one_text : (pattern : FilterPattern) → IsTrue (is_none (url_filter_of pattern) || is_none (regex_filter_of pattern))
one_text every_url = refl
one_text (plain text) = refl
one_text (regex text) = refl

-- a list of hosts, which is not empty where it is given
pub record AreHosts (standing : Standing) : Type 0 where
  pub whole : IsGivenWhole standing.hosts
  pub domains : IfSome standing.hosts AreDomains

one_pattern : (standing : Standing) (kinds : List Kind) (initiators : Initiators) → IsPattern standing.filter.pattern → AreHosts standing → AreInitiators initiators
    → IsCondition (condition_of standing.filter standing.hosts kinds initiators)
one_pattern standing kinds initiators pattern hosts are = record {
  one_filter = one_text standing.filter.pattern;
  url_filter = pattern.url;
  regex_filter = pattern.regex;
  initiators = (are.whole, are.among);
  not_initiators = are.not_among;
  hosts = (hosts.whole, hosts.domains);
  not_hosts = ([], refl);
  methods = tt;
  tabs = (tt, tt);
  not_tabs = refl;
  header_tests = (tt, tt);
  not_header_tests = refl;
}

pub is_rule : (standing : Standing) (effect : Effect) (initiators : Initiators) (id : ℕ) → IsTrue (is_number id) → IsPattern standing.filter.pattern → AreHosts standing → AreInitiators initiators
    → IsRule (rule_of id (record { standing = standing; effect = effect; initiators = initiators }))
is_rule standing blocks initiators id number pattern hosts are =
    record { id = number; priority = refl; condition = one_pattern standing standing.filter.kinds initiators pattern hosts are; action = tt }
is_rule standing allows initiators id number pattern hosts are =
    record { id = number; priority = refl; condition = one_pattern standing standing.filter.kinds initiators pattern hosts are; action = tt }
is_rule standing exempts initiators id number pattern hosts are = record { id = number; priority = refl; condition = one_pattern standing _ initiators pattern hosts are; action = refl }

-- it is a rule with whatever id
abbrev IsRuleDraft : Draft → Type 0
IsRuleDraft draft = (id : ℕ) → IsTrue (is_number id) → IsRule (rule_of id draft)

drafts_are_rules : (standing : Standing) (effect : Effect) → IsSupported standing.filter → AreHosts standing → AllByRecursion IsRuleDraft (drafts_with standing effect)
drafts_are_rules standing effect is hosts =
    each_mapped IsRuleDraft (λ initiators. record { standing = standing; effect = effect; initiators = initiators }) (initiators_of standing.filter.domains)
    (each_weaker AreInitiators (λ initiators. IsRuleDraft (record { standing = standing; effect = effect; initiators = initiators }))
    (λ initiators are id number. is_rule standing effect initiators id number is.pattern hosts are) (initiators_of standing.filter.domains) (are_initiators standing.filter.domains is.entries.each))

-- ---- filters that stand as one

pub supported_place : (lines : List (List ℕ)) (place : ℕ) (filter : FilterLine) → filter_in_place lines place ≡ Some filter → IsSupported filter
supported_place [] place filter is = cc
supported_place (line ∷ lines) zero filter is = supported line filter is
supported_place (line ∷ lines) (suc place) filter is = supported_place lines place filter is

pub each_supported : (number : ℕ) (lines : List (List ℕ)) → AllByRecursion (λ placed. IsSupported placed.filter) (placed_from number lines)
each_supported number lines =
    each_weaker (IsPlaced number lines) (λ placed. IsSupported placed.filter) (λ placed is. supported_place lines is.place placed.filter is.there) (placed_from number lines) (each_placed number lines)

host_lower : (pattern : FilterPattern) (domain : Option (List ℕ)) (hosts : List (List ℕ)) → plain_domain pattern ≡ domain → AllByRecursion IsLowerDomain hosts → AllByRecursion IsLowerDomain (cons_option domain hosts)
host_lower pattern None hosts is h = h
host_lower pattern (Some domain) hosts is h =
    let has = has_domain pattern domain is in (record { reads = has.plain.domain; lower = plain_lower domain has.plain.bytes }, h)

hosts_lower : (placed : List Placed) → AllByRecursion IsLowerDomain (filter_map (λ one. plain_domain one.filter.pattern) placed)
hosts_lower [] = tt
hosts_lower (one ∷ others) = host_lower one.filter.pattern (plain_domain one.filter.pattern) _ refl (hosts_lower others)

pub stands_supported : (first : Placed) (others : List Placed) → IsSupported first.filter → IsSupported (standing_with first others).filter
stands_supported first [] is = is
stands_supported first (other ∷ others) is = record { entries = is.entries; pattern = record { url = tt; regex = tt } }

some_in : (P : List ℕ → Type 0) (xs : List (List ℕ)) → Has P xs → 0 < length xs
some_in P [] h = absurd h
some_in P (x ∷ xs) h = omega arith

first_host : (domain : Option (List ℕ)) (hosts : List (List ℕ)) → is_some domain ≡ true → Has (λ host. Unit {0}) (cons_option domain hosts)
first_host None hosts h = cc
first_host (Some domain) hosts h = inl tt

are_hosts : (all : List Placed) (first : Placed) (others : List Placed) → AllByRecursion (λ other. In other all × (alike_to first other ≡ true)) others → AreHosts (standing_with first others)
are_hosts all first [] h = record { whole = tt; domains = tt }
are_hosts all first (other ∷ others) h =
    let domains = filter_map (λ (one : Placed). plain_domain one.filter.pattern) (first ∷ other ∷ others) in
    let alike = reads_alike first.filter other.filter h.0.1 in
    record {
      whole = some_in (λ host. Unit {0}) (ascending domains) (has_ascending (λ host. Unit {0}) domains (first_host (plain_domain first.filter.pattern) _ alike.one_plain));
      domains = are_domains (ascending domains) (each_ascending IsLowerDomain domains (hosts_lower (first ∷ other ∷ others)));
    }

group_rules : (number : ℕ) (lines : List (List ℕ)) (group : Group) → IsGroup (placed_from number lines) group → (effect : Effect) → AllByRecursion IsRuleDraft (drafts_with (standing group) effect)
group_rules number lines group is effect =
    drafts_are_rules (standing group) effect
    (stands_supported group.first group.others (each_in (λ placed. IsSupported placed.filter) group.first (placed_from number lines) is.first (each_supported number lines)))
    (are_hosts (placed_from number lines) group.first group.others is.others)

pub groups_give_rules : GroupsGiveRules
groups_give_rules lines =
    let all = placed_from 1 lines in
    All-from_recursion GivesRules (groups_of all)
    (each_weaker (IsGroup all) GivesRules (λ group is effect id number.
    All-from_recursion (λ draft. IsRule (rule_of id draft)) (drafts_with (standing group) effect)
    (each_weaker IsRuleDraft (λ draft. IsRule (rule_of id draft)) (λ draft h. h id number) (drafts_with (standing group) effect) (group_rules 1 lines group is effect))) (groups_of all) (are_groups all))

-- ---- lists

in_list : (lines : List (List ℕ)) → AllByRecursion IsRuleDraft (drafts_in lines)
in_list lines =
    let all = placed_from 1 lines in
    each_flat IsRuleDraft (λ group. drafts_of (standing group)) (groups_of all)
    (each_weaker (IsGroup all) (λ group. AllByRecursion IsRuleDraft (drafts_of (standing group))) (λ group is.
    each_flat IsRuleDraft (drafts_with (standing group)) (effects_of (standing group).filter)
    (in_each (λ effect. AllByRecursion IsRuleDraft (drafts_with (standing group) effect)) (effects_of (standing group).filter) (λ effect i. group_rules 1 lines group is effect))) (groups_of all) (are_groups all))

ids_in_range : (id : ℕ) → 1 ≤ id → id ≤ 300000 → IsTrue (is_number id)
ids_in_range id some few =
    let low : nat_le 1 id ≡ true = grind (arith, nat_tests) in
    let high : nat_le id 2147483647 ≡ true = le-leb id 2147483647 (omega arith) in
    and_from (nat_le 1 id) (nat_le id 2147483647) low high

numbered : (id : ℕ) (drafts : List Draft) → 1 ≤ id → id + length drafts ≤ 300001 → AllByRecursion IsRuleDraft drafts → AllByRecursion (λ one. IsRule one.rule) (with_ids id drafts)
numbered id [] some few h = tt
numbered id (draft ∷ drafts) some few h = (h.0 id (ids_in_range id some (omega arith)), numbered (id + 1) drafts (omega arith) (omega arith) h.1)

length_numbered : (id : ℕ) (drafts : List Draft) → length (with_ids id drafts) ≡ length drafts
length_numbered id [] = refl
length_numbered id (draft ∷ drafts) = ap suc (length_numbered (id + 1) drafts)

pub lists_give_rules : ListsGiveRules
unfolding compiled
lists_give_rules lines few =
    let drafts = drafts_in lines in
    All-from_recursion (λ one. IsRule one.rule) (with_ids 1 drafts)
    (numbered 1 drafts (omega arith) (omega (arith, length_numbered 1 drafts)) (in_list lines))
