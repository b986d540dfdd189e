-- A rule that holds on a part shares a key with it.
use Rattle.std.proofs.Common.{◌≡◌, ℕ, zero, suc, ◌-◌, ◌<◌, List, [], ◌∷◌, ◌++◌, length, map, filter, drop, get_or, fold, Bool, true, false, not, cond, ◌&&◌, ◌==◌, Option, Some, None, is_some, inl, inr, refl, sym, ap, ◌∙◌, subst, arith, All, nat_lt}
use Rattle.std.specs.Prelude.{nat_eq, option_and_then}
use Rattle.std.specs.List.{list_any, ends_with}
use Rattle.std.specs.Str.{bytes_eq}
use Rattle.std.specs.Char.{is_ascii_alphanumeric}
use Rattle.std.proofs.lemmas.Bool.{or_cases, or_left, or_right, cases_Bool, false≢true}
use Rattle.std.proofs.lemmas.Bool.Decides.{nat_tests}
use Rattle.std.proofs.lemmas.List.{get_or-take}
use Rattle.std.proofs.lemmas.List.Elements.{All-nil, All-cons, All-head, All-tail}
use Rattle.std.proofs.lemmas.Slice.Eq.{bytes_eq-Decides}
use Rattle.dnr_base.specs.View.{View, IsView, text_of, host_of, begins_host}
use Rattle.dnr_base.specs.Request.{Part}
use Rattle.dnr_spec.specs.Domains.{lower_case, covers, covers_some}
use Rattle.dnr_spec.specs.Hosts.{is_ip_host}
use Rattle.dnr_spec.specs.UrlFilter.{filter_of, fits}
use Rattle.dnr_spec.specs.Suffixes.{SuffixRule}
use Rattle.rule_spec.specs.Rule.{Condition, Rule}
use Rattle.rule_spec.specs.Holds.{is_among, is_from, fits_url, holds}
use Rattle.index_spec.specs.Words.{is_filled, words_of, words_of_filter, is_common, tokens_of_filter, longer_of, longest_of, token_of}
use Rattle.index_spec.specs.declared.key.Key.{Key}
use Rattle.index_spec.specs.declared.key.Key.TheVariants.{Host, Token, Initiator, All as any_part}
use Rattle.index_spec.specs.Keys.{same_key, has_key, keys_by_initiators, keys_by_token, keys_by_hosts, rests_of, domains_over, domains_over_some, keys_of_part}
use Rattle.index_laws.specs.Shared.{IsHostCut, RulesShareAKey}
use Rattle.index_laws.proofs.Anchors.{firm_words_are_shown}

-- ---- some of a list

any_left : {X : Type 0} (test : X → Bool) (xs ys : List X) → list_any test xs ≡ true → list_any test (xs ++ ys) ≡ true
any_left test [] ys has = absurd (false≢true has)
any_left test (x ∷ xs) ys has =
    elim (or_cases (test x) (list_any test xs) has) [
      | inl here ↦ or_left (test x) (list_any test (xs ++ ys)) here
      | inr later ↦ or_right (test x) (list_any test (xs ++ ys)) (any_left test xs ys later)
    ]

any_right : {X : Type 0} (test : X → Bool) (xs ys : List X) → list_any test ys ≡ true → list_any test (xs ++ ys) ≡ true
any_right test [] ys has = has
any_right test (x ∷ xs) ys has = or_right (test x) (list_any test (xs ++ ys)) (any_right test xs ys has)

any_map : {X Y : Type 0} (f : X → Y) (test : Y → Bool) (xs : List X) → list_any (λ x. test (f x)) xs ≡ true → list_any test (map f xs) ≡ true
any_map f test [] has = has
any_map f test (x ∷ xs) has =
    elim (or_cases (test (f x)) (list_any (λ x. test (f x)) xs) has) [
      | inl here ↦ or_left (test (f x)) (list_any test (map f xs)) here
      | inr later ↦ or_right (test (f x)) (list_any test (map f xs)) (any_map f test xs later)
    ]

-- ---- what covers a host is the host, or a rest of it

bytes_same : (text : List ℕ) → bytes_eq text text ≡ true
bytes_same text = (bytes_eq-Decides text text).1 refl

bytes_turned : (text other : List ℕ) → bytes_eq text other ≡ true → bytes_eq other text ≡ true
bytes_turned text other same = (bytes_eq-Decides other text).1 (sym ((bytes_eq-Decides text other).0 same))

is_rest : (place : ℕ) (host domain : List ℕ) → 46 ∷ domain ≡ drop place host → list_any (λ rest. bytes_eq rest domain) (rests_of host) ≡ true
is_rest zero [] domain is = absurd (let e : length (46 ∷ domain) ≡ 0 = ap length is in omega arith)
is_rest (suc place) [] domain is = absurd (let e : length (46 ∷ domain) ≡ 0 = ap length is in omega arith)
is_rest zero (b ∷ rest) domain is =
    let byte : b ≡ 46 = sym (ap (λ l. get_or l 0 0) is) in
    let same : rest ≡ domain = sym (ap (drop 1) is) in
    let dot : (b == 46) ≡ true = rw byte refl in
    rw dot (or_left (bytes_eq rest domain) (list_any (λ rest. bytes_eq rest domain) (rests_of rest)) (rw same (bytes_same domain)))
is_rest (suc place) (b ∷ rest) domain is = any_right (λ rest. bytes_eq rest domain) (cond (b == 46) (rest ∷ []) []) (rests_of rest) (is_rest place rest domain is)

over_by : (ip : Bool) (host domain : List ℕ) → (not ip && ends_with nat_eq host (46 ∷ domain)) ≡ true → list_any (λ rest. bytes_eq rest domain) (cond ip [] (rests_of host)) ≡ true
over_by true host domain has = absurd (false≢true has)
over_by false host domain has = is_rest (length host - length (46 ∷ domain)) host domain ((bytes_eq-Decides (46 ∷ domain) (drop (length host - length (46 ∷ domain)) host)).0 has)

covers_over : (domain host : List ℕ) → covers domain host ≡ true → list_any (λ over. bytes_eq over domain) (domains_over host) ≡ true
covers_over domain host has =
    elim (or_cases (bytes_eq domain host) (not (is_ip_host host) && ends_with nat_eq host (46 ∷ domain)) has) [
      | inl same ↦ or_left (bytes_eq host domain) (list_any (λ over. bytes_eq over domain) (cond (is_ip_host host) [] (rests_of host))) (bytes_turned domain host same)
      | inr rest ↦ or_right (bytes_eq host domain) (list_any (λ over. bytes_eq over domain) (cond (is_ip_host host) [] (rests_of host))) (over_by (is_ip_host host) host domain rest)
    ]

-- one of the keys of domains is among these keys, if each domain that covers the host is
some_covers : (key : List ℕ → Key) (keys : List Key) (domains : List (List ℕ)) (host : List ℕ) → ((domain : List ℕ) → covers domain host ≡ true → has_key keys (key domain) ≡ true) → covers_some domains host ≡ true → list_any (has_key keys) (map key domains) ≡ true
some_covers key keys [] host each has = has
some_covers key keys (domain ∷ domains) host each has =
    elim (or_cases (covers domain host) (covers_some domains host) has) [
      | inl here ↦ or_left (has_key keys (key domain)) (list_any (has_key keys) (map key domains)) (each domain here)
      | inr later ↦ or_right (has_key keys (key domain)) (list_any (has_key keys) (map key domains)) (some_covers key keys domains host each later)
    ]

-- ---- keys of a part

abbrev hosts_in : Part → List Key
hosts_in part = map Host (domains_over (host_of part.view))

abbrev tokens_in : Part → List Key
tokens_in part = map Token (map lower_case (words_of (text_of part.view)))

abbrev initiators_in : Part → List Key
initiators_in part = map Initiator (domains_over_some part.initiator)

host_key : (part : Part) (domain : List ℕ) → covers domain (host_of part.view) ≡ true → has_key (keys_of_part part) (Host domain) ≡ true
host_key part domain has =
    let test : Key → Bool = λ other. same_key other (Host domain) in
    any_left test ((hosts_in part ++ tokens_in part) ++ initiators_in part) (any_part ∷ [])
    (any_left test (hosts_in part ++ tokens_in part) (initiators_in part)
    (any_left test (hosts_in part) (tokens_in part)
    (any_map Host test (domains_over (host_of part.view)) (covers_over domain (host_of part.view) has))))

token_key : (part : Part) (token : List ℕ) → list_any (λ word. bytes_eq (lower_case word) token) (words_of (text_of part.view)) ≡ true → has_key (keys_of_part part) (Token token) ≡ true
token_key part token has =
    let test : Key → Bool = λ other. same_key other (Token token) in
    any_left test ((hosts_in part ++ tokens_in part) ++ initiators_in part) (any_part ∷ [])
    (any_left test (hosts_in part ++ tokens_in part) (initiators_in part)
    (any_right test (hosts_in part) (tokens_in part)
    (any_map Token test (map lower_case (words_of (text_of part.view))) (any_map lower_case (λ word. test (Token word)) (words_of (text_of part.view)) has))))

initiator_key : (part : Part) (host domain : List ℕ) → part.initiator ≡ Some host → covers domain host ≡ true → has_key (keys_of_part part) (Initiator domain) ≡ true
initiator_key part host domain is has =
    let test : Key → Bool = λ other. same_key other (Initiator domain) in
    any_left test ((hosts_in part ++ tokens_in part) ++ initiators_in part) (any_part ∷ [])
    (any_right test (hosts_in part ++ tokens_in part) (initiators_in part)
    (any_map Initiator test (domains_over_some part.initiator) (rw is (covers_over domain host has))))

any_key : (part : Part) → has_key (keys_of_part part) any_part ≡ true
any_key part = any_right (λ other. same_key other any_part) ((hosts_in part ++ tokens_in part) ++ initiators_in part) (any_part ∷ []) refl

-- ---- the token is a word of the filter

chosen : (P : List ℕ → Type 0) (words : List (List ℕ)) (best : List ℕ) → (is_filled best ≡ true → P best) → ((k : ℕ) (d : List ℕ) → k < length words → P (get_or words k d)) → is_filled (fold longer_of best words) ≡ true → P (fold longer_of best words)
chosen P [] best own all some = own some
chosen P (word ∷ words) best own all some = chosen P words (longer_of best word) (better (nat_lt (length best) (length word))) (λ k d inside. all (suc k) d (omega arith)) some
  where
    better : (longer : Bool) → is_filled (cond longer word best) ≡ true → P (cond longer word best)
    better true filled = all 0 word (omega arith)
    better false filled = own filled

kept_by : (P : List ℕ → Type 0) (keep : Bool) (word : List ℕ) (words : List (List ℕ)) → P word → All P words → All P (cond keep (word ∷ words) words)
kept_by P true word words first rest = All-cons P word words first rest
kept_by P false word words first rest = rest

all_kept : (P : List ℕ → Type 0) (words : List (List ℕ)) → All (λ word. P (lower_case word)) words → All P (filter (λ word. not (is_common word)) (map lower_case words))
all_kept P [] all = All-nil P
all_kept P (word ∷ words) all =
    kept_by P (not (is_common (lower_case word))) (lower_case word) (filter (λ word. not (is_common word)) (map lower_case words))
    (All-head (λ word. P (lower_case word)) word words all) (all_kept P words (All-tail (λ word. P (lower_case word)) word words all))

-- ---- the token is a word of the text

-- a word of the text is the token, in whatever case
abbrev IsShown : List ℕ → List ℕ → Type 0
IsShown text token = list_any (λ word. bytes_eq (lower_case word) token) (words_of text) ≡ true

abbrev unwrapped : Option (List ℕ) → List ℕ
unwrapped None = []
unwrapped (Some token) = token

no_token : (text token : List ℕ) → None ≡ Some token → IsShown text token
no_token text token is = absurd (false≢true (ap (λ (o : Option (List ℕ)). is_some o) is))

token_told : (text longest : List ℕ) (some : Bool) → (some ≡ true → IsShown text longest) → (token : List ℕ) → cond some (Some longest) None ≡ Some token → IsShown text token
token_told text longest true shown token is = subst (IsShown text) (ap unwrapped is) (shown refl)
token_told text longest false shown token is = no_token text token is

no_word : (b : ℕ) → begins_host b ≡ true → is_ascii_alphanumeric b ≡ false
no_word b is = grind (arith, nat_tests)

-- the byte before the host of a view is in no word
pub host_cut : (view : View) → IsView view → IsHostCut (text_of view) view.host
host_cut view is some =
    let below : view.host.start - 1 < view.cut = (let a = is.first in let b = is.order in let c = is.within in omega arith) in
    let at : get_or (text_of view) (view.host.start - 1) 0 ≡ get_or view.full (view.host.start - 1) 0 = get_or-take view.cut view.full (view.host.start - 1) 0 below in
    ap is_ascii_alphanumeric at ∙ no_word (get_or view.full (view.host.start - 1) 0) is.before

pattern_token : (pattern : List ℕ) (fold : Bool) (view : View) → IsView view → fits pattern (text_of view) view.host fold ≡ true → (token : List ℕ) → token_of pattern ≡ Some token → IsShown (text_of view) token
pattern_token pattern fold view is_view fit =
    let text = text_of view in
    let words = words_of_filter (filter_of pattern) in
    let all : All (λ word. IsShown text (lower_case word)) words = firm_words_are_shown pattern text view.host fold (host_cut view is_view) fit in
    token_told text (longest_of (tokens_of_filter (filter_of pattern))) (is_filled (longest_of (tokens_of_filter (filter_of pattern))))
    (chosen (IsShown text) (tokens_of_filter (filter_of pattern)) [] (λ some. absurd (false≢true some)) (all_kept (IsShown text) words all))

url_token : (filter : Option (List ℕ)) (fold : Bool) (view : View) → IsView view → fits_url filter fold view ≡ true → (token : List ℕ) → option_and_then token_of filter ≡ Some token → IsShown (text_of view) token
url_token None fold view is_view fit token is = no_token (text_of view) token is
url_token (Some pattern) fold view is_view fit token is = pattern_token pattern fold view is_view fit token is

-- ---- the rule's keys, one field after another

abbrev Shares : Part → List Key → Type 0
Shares part keys = list_any (has_key (keys_of_part part)) keys ≡ true

one_shared : (part : Part) (key : Key) → has_key (keys_of_part part) key ≡ true → Shares part (key ∷ [])
one_shared part key has = or_left (has_key (keys_of_part part) key) false has

from_some : (part : Part) (domains : List (List ℕ)) (initiator : Option (List ℕ)) → part.initiator ≡ initiator → is_from (Some domains) initiator ≡ true → Shares part (map Initiator domains)
from_some part domains None is has = absurd (false≢true has)
from_some part domains (Some host) is has = some_covers Initiator (keys_of_part part) domains host (λ domain. initiator_key part host domain is) has

by_initiators : (part : Part) (initiators : Option (List (List ℕ))) → is_from initiators part.initiator ≡ true → Shares part (keys_by_initiators initiators)
by_initiators part None has = one_shared part any_part (any_key part)
by_initiators part (Some domains) has = from_some part domains part.initiator refl has

by_token : (part : Part) (condition : Condition) (token : Option (List ℕ)) → ((word : List ℕ) → token ≡ Some word → IsShown (text_of part.view) word) → is_from condition.initiators part.initiator ≡ true → Shares part (keys_by_token token condition)
by_token part condition None shown from = by_initiators part condition.initiators from
by_token part condition (Some word) shown from = one_shared part (Token word) (token_key part word (shown word refl))

by_hosts : (part : Part) (condition : Condition) (hosts : Option (List (List ℕ))) → is_among hosts (host_of part.view) ≡ true → Shares part (keys_by_token (option_and_then token_of condition.url_filter) condition) → Shares part (keys_by_hosts hosts condition)
by_hosts part condition None among rest = rest
by_hosts part condition (Some domains) among rest = some_covers Host (keys_of_part part) domains (host_of part.view) (host_key part) among

-- ---- the fields that a rule which holds has in common with the part

pub and_false : (b : Bool) → (b && false) ≡ false
and_false true = refl
and_false false = refl

holds_among : (suffixes : List SuffixRule) (rule : Rule) (part : Part) → holds suffixes rule part ≡ true → is_among rule.condition.hosts (host_of part.view) ≡ true
holds_among suffixes rule part has =
    elim (cases_Bool (is_among rule.condition.hosts (host_of part.view))) [
      | inl so ↦ so
      | inr not_so ↦ absurd (false≢true (simp (not_so, and_false) at has))
    ]

pub holds_fit : (suffixes : List SuffixRule) (rule : Rule) (part : Part) → holds suffixes rule part ≡ true → fits_url rule.condition.url_filter (not rule.condition.case_sensitive) part.view ≡ true
holds_fit suffixes rule part has =
    elim (cases_Bool (fits_url rule.condition.url_filter (not rule.condition.case_sensitive) part.view)) [
      | inl so ↦ so
      | inr not_so ↦ absurd (false≢true (simp (not_so, and_false) at has))
    ]

holds_from : (suffixes : List SuffixRule) (rule : Rule) (part : Part) → holds suffixes rule part ≡ true → is_from rule.condition.initiators part.initiator ≡ true
holds_from suffixes rule part has =
    elim (cases_Bool (is_from rule.condition.initiators part.initiator)) [
      | inl so ↦ so
      | inr not_so ↦ absurd (false≢true (simp (not_so, and_false) at has))
    ]

pub rules_share_a_key : RulesShareAKey
rules_share_a_key suffixes rule part is_view has =
    let condition = rule.condition in
    by_hosts part condition condition.hosts (holds_among suffixes rule part has)
    (by_token part condition (option_and_then token_of condition.url_filter)
    (url_token condition.url_filter (not condition.case_sensitive) part.view is_view (holds_fit suffixes rule part has))
    (holds_from suffixes rule part has))
