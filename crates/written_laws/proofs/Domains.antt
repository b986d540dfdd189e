-- Lists of domains as they are kept, and hosts as they are kept, are read as they are.
use Rattle.std.proofs.Common.{◌≡◌, ℕ, suc, ◌+◌, ◌-◌, List, [], ◌∷◌, length, map, take, drop, get_or, Bool, true, false, cond, not, ◌&&◌, ◌||◌, ◌==◌, nat_lt, Option, Some, None, Ok, refl, sym, ap, ◌∙◌, subst, arith}
use Rattle.std.specs.Prelude.{nat_le, position, slice_range, bytes_eq}
use Rattle.std.specs.List.{list_all, position_or_len}
use Rattle.std.specs.Char.{to_ascii_lowercase}
use Rattle.std.proofs.Math.ListN.{get_or-map}
use Rattle.std.proofs.lemmas.List.{length-map, take-map, drop-map}
use Rattle.std.proofs.lemmas.Bool.{true≢false}
use Rattle.std.proofs.lemmas.Bool.Decides.{nat_tests}
use Rattle.std.proofs.lemmas.Slice.Eq.{bytes_eq-Decides}
use Rattle.dnr_spec.specs.Domains.{is_label_byte, is_address_byte, is_address, is_domain, lower_case, unless_bad, domains_of}
use Rattle.domain_set.proofs.Lowered.{domains_of-lower}
use Rattle.rule_spec.specs.IsRule.{AreDomains}
use Rattle.rule_spec.specs.Redirects.{is_short, is_new_host}
use Rattle.json_spec.specs.Written.{ascending_domains}
use Rattle.std.specs.Ordering.{nat_cmp}
use Rattle.std.specs.Cmp.Lexicographic.{slice_cmp}
use Rattle.written_laws.proofs.Sets.{both, all_more, set_all}

-- ---- lists of domains

-- a domain in lower case
abbrev is_kept : List ℕ → Bool
is_kept entry = is_domain entry && bytes_eq (lower_case entry) entry

abbrev bad : List ℕ → Bool
bad entry = not (is_domain entry)

taken : (list domains : List (List ℕ)) (place : Option ℕ) → unless_bad list place ≡ Ok domains → (place ≡ None) × (map lower_case list ≡ domains)
taken list domains None h = (refl, cc)
taken list domains (Some place) h = cc

none_at : (b : Bool) (n : ℕ) → cond b (Some n) None ≡ None → b ≡ false
none_at true n h = cc
none_at false n h = refl

same_entry : (one other : List ℕ) → one ≡ other → bytes_eq one other ≡ true
same_entry one other e = (bytes_eq-Decides one other).1 e

good_step : (b : Bool) (n m : ℕ) (all : Bool) → (nat_lt n m ≡ false → all ≡ true) → nat_lt (cond (not (not b)) (1 + n) 0) (suc m) ≡ false → (b && all) ≡ true
good_step true n m all rest h = rest (grind (arith, nat_tests))
good_step false n m all rest h = let some : nat_lt 0 (suc m) ≡ true = grind (arith, nat_tests) in absurd (true≢false (sym some ∙ h))

all_good : (list : List (List ℕ)) → nat_lt (position_or_len bad list) (length list) ≡ false → list_all is_domain list ≡ true
all_good [] h = refl
all_good (entry ∷ list) h = good_step (is_domain entry) (position_or_len bad list) (length list) (list_all is_domain list) (all_good list) h

kept_from : (list : List (List ℕ)) → list_all is_domain list ≡ true → map lower_case list ≡ list → list_all is_kept list ≡ true
kept_from [] h e = refl
kept_from (entry ∷ list) h e =
    let first : lower_case entry ≡ entry = cc in
    let rest : map lower_case list ≡ list = cc in
    let p = both (is_domain entry) (list_all is_domain list) h in
    all_more (is_kept entry) (list_all is_kept list) (all_more (is_domain entry) (bytes_eq (lower_case entry) entry) p.0 (same_entry (lower_case entry) entry first))
    (kept_from list p.1 rest)

read_as_it_is : (list : List (List ℕ)) → domains_of list ≡ Ok list → list_all is_kept list ≡ true
read_as_it_is list h =
    let p = taken list list (position bad list) h in
    kept_from list (all_good list (none_at (nat_lt (position_or_len bad list) (length list)) (position_or_len bad list) p.0)) p.1

-- lists that some list is read as
are_kept : (domains : List (List ℕ)) → AreDomains domains → list_all is_kept domains ≡ true
are_kept domains (list, h) =
    let p = taken list domains (position bad list) h in
    subst (λ l. list_all is_kept l ≡ true) p.1 (read_as_it_is (map lower_case list) (domains_of-lower list p.0))

place_end : (list : List (List ℕ)) → list_all is_kept list ≡ true → position_or_len bad list ≡ length list
place_end [] h = refl
place_end (entry ∷ list) h =
    let p = both (is_kept entry) (list_all is_kept list) h in
    let q = both (is_domain entry) (bytes_eq (lower_case entry) entry) p.0 in
    ap (λ b. cond (not (not b)) (1 + position_or_len bad list) 0) q.0 ∙ ap (λ n. 1 + n) (place_end list p.1) ∙ omega arith

all_low : (list : List (List ℕ)) → list_all is_kept list ≡ true → map lower_case list ≡ list
all_low [] h = refl
all_low (entry ∷ list) h =
    let p = both (is_kept entry) (list_all is_kept list) h in
    let q = both (is_domain entry) (bytes_eq (lower_case entry) entry) p.0 in
    let first = (bytes_eq-Decides (lower_case entry) entry).0 q.1 in
    let rest = all_low list p.1 in
    λ i. first i ∷ rest i

kept_domains : (list : List (List ℕ)) → list_all is_kept list ≡ true → domains_of list ≡ Ok list
kept_domains list h =
    let end : nat_lt (position_or_len bad list) (length list) ≡ false = ap (λ n. nat_lt n (length list)) (place_end list h) ∙ not_below (length list) in
    ap (λ b. unless_bad list (cond b (Some (position_or_len bad list)) None)) end ∙ ap Ok (all_low list h)
  where
    not_below : (n : ℕ) → nat_lt n n ≡ false
    not_below n = grind (arith, nat_tests)

-- a list of domains in order is read as it is
pub domains_read : (domains : List (List ℕ)) → AreDomains domains → domains_of (ascending_domains domains) ≡ Ok (ascending_domains domains)
domains_read domains are = kept_domains (ascending_domains domains) (set_all (slice_cmp nat_cmp) is_kept domains [] refl (are_kept domains are))

-- ---- hosts

low-low : (b : ℕ) → to_ascii_lowercase (to_ascii_lowercase b) ≡ to_ascii_lowercase b
low-low b = grind (arith, nat_tests)

low-host : (b : ℕ) → (is_label_byte (to_ascii_lowercase b) || (to_ascii_lowercase b == 46)) ≡ (is_label_byte b || (b == 46))
low-host b = grind (arith, nat_tests)

low-address : (b : ℕ) → is_address_byte (to_ascii_lowercase b) ≡ is_address_byte b
low-address b = grind (arith, nat_tests)

low-open : (b : ℕ) → (to_ascii_lowercase b == 91) ≡ (b == 91)
low-open b = grind (arith, nat_tests)

low-close : (b : ℕ) → (to_ascii_lowercase b == 93) ≡ (b == 93)
low-close b = grind (arith, nat_tests)

pub lower_case-lower_case : (text : List ℕ) → lower_case (lower_case text) ≡ lower_case text
lower_case-lower_case [] = refl
lower_case-lower_case (b ∷ text) = λ i. low-low b i ∷ lower_case-lower_case text i

all-low : (test : ℕ → Bool) → ((b : ℕ) → test (to_ascii_lowercase b) ≡ test b) → (text : List ℕ) → list_all test (lower_case text) ≡ list_all test text
all-low test same [] = refl
all-low test same (b ∷ text) = λ i. same b i && all-low test same text i

is_address-lower : (text : List ℕ) → is_address (lower_case text) ≡ is_address text
is_address-lower text =
    let low = lower_case text in
    let long : length low ≡ length text = length-map text to_ascii_lowercase in
    let first : (get_or low 0 0 == 91) ≡ (get_or text 0 0 == 91) = ap (λ b. b == 91) (get_or-map to_ascii_lowercase text 0 0) ∙ low-open (get_or text 0 0) in
    let end = length text - 1 in
    let last : (get_or low end 0 == 93) ≡ (get_or text end 0 == 93) = ap (λ b. b == 93) (get_or-map to_ascii_lowercase text end 0) ∙ low-close (get_or text end 0) in
    let part : slice_range low 1 end ≡ lower_case (slice_range text 1 end) = ap (take (end - 1)) (drop-map to_ascii_lowercase 1 text) ∙ take-map to_ascii_lowercase (end - 1) (drop 1 text) in
    let inside : list_all is_address_byte (slice_range low 1 end) ≡ list_all is_address_byte (slice_range text 1 end)
    = ap (list_all is_address_byte) part ∙ all-low is_address_byte low-address (slice_range text 1 end) in
    (λ i. ((nat_le 2 (long i) && get_or low 0 0 == 91) && get_or low (long i - 1) 0 == 93) && list_all is_address_byte (slice_range low 1 (long i - 1)))
    ∙ (λ i. ((nat_le 2 (length text) && first i) && last i) && inside i)

is_new_host-lower : (text : List ℕ) → is_new_host (lower_case text) ≡ is_new_host text
is_new_host-lower text =
    λ i. is_address-lower text i || (nat_le 1 (length-map text to_ascii_lowercase i) && all-low (λ b. is_label_byte b || b == 46) low-host text i)

-- a host in lower case passes the tests of a host
pub host_again : (text : List ℕ) → (is_short text && is_new_host text) ≡ true → (is_short (lower_case text) && is_new_host (lower_case text)) ≡ true
host_again text h = (λ i. is_short-lower i && is_new_host-lower text i) ∙ h
  where
    is_short-lower : is_short (lower_case text) ≡ is_short text
    is_short-lower = ap (λ n. nat_le n 8192) (length-map text to_ascii_lowercase)
