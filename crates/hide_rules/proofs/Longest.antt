-- The longest domain that covers a host is the first that is named.
use Rattle.std.proofs.Common.{◌≡◌, ◌<◌, ◌≤◌, ◌+◌, ℕ, List, [], ◌∷◌, length, Bool, true, false, cond, ◌||◌, ◌&&◌, ◌==◌, not, ◌⊎◌, inl, inr, refl, sym, ap, ◌∙◌, subst, ⊎_elim, arith, Option, None, Some}
use Rattle.std.specs.Prelude.{filter, nat_le, unwrap_or}
use Rattle.std.specs.List.{list_any}
use Rattle.std.specs.Str.{bytes_eq}
use Rattle.std.proofs.lemmas.Bool.{and_parts, and_from, or_cases, or_left, not_from_false, cases_Bool, cond-true, cond-false, leb-true, le-leb}
use Rattle.std.proofs.lemmas.Slice.Eq.{bytes_eq-Decides}
use Rattle.dnr_spec.specs.Hosts.{is_ip_host}
use Rattle.dnr_spec.specs.Domains.{covers}
use Rattle.domain_set.specs.Rests.{some_rest}
use Rattle.domain_set.proofs.Ends.{ends_with-dot}
use Rattle.list_spec.specs.declared.domain_entry.DomainEntry.{DomainEntry}
use Rattle.list_spec.specs.Entries.{is_listed, is_excluded}
use Rattle.list_spec.specs.Says.{is_longest, lists_none, longest_is_listed, is_for}
use Rattle.hide_rules.specs.Ends.{ends_behind, ends_of, or_else, said, applies_by}
use Rattle.hide_rules.specs.Members.{In}
use Rattle.hide_rules.proofs.Members.{same_answer, any_out, any_in, all_in, all_from, in_filtered, in_unfiltered, filter_same}

-- ---- what covers a host

rest_or_end : (test : List ℕ → Bool) (host : List ℕ) → some_rest test host ≡ list_any test (ends_behind host)
rest_or_end test [] = refl
rest_or_end test (b ∷ rest) =
    ⊎_elim
    (λ dot. ap (λ t. (t && test rest) || some_rest test rest) dot ∙ ap (λ r. test rest || r) (rest_or_end test rest) ∙ sym (ap (list_any test) (cond-true (b == 46) _ _ dot)))
    (λ other. ap (λ t. (t && test rest) || some_rest test rest) other ∙ rest_or_end test rest ∙ sym (ap (list_any test) (cond-false (b == 46) _ _ other)))
    (cases_Bool (b == 46))

unless : (ip : Bool) (test : List ℕ → Bool) (ends : List (List ℕ)) → (not ip && list_any test ends) ≡ list_any test (cond ip [] ends)
unless true test ends = refl
unless false test ends = refl

pub covers_ends : (domain host : List ℕ) → covers domain host ≡ list_any (bytes_eq domain) (ends_of host)
covers_ends domain host =
    ap (λ t. bytes_eq domain host || (not (is_ip_host host) && t)) (ends_with-dot domain host ∙ rest_or_end (bytes_eq domain) host)
    ∙ ap (λ t. bytes_eq domain host || t) (unless (is_ip_host host) (bytes_eq domain) (ends_behind host))

-- ---- the ends become shorter

abbrev AreShorter : ℕ → List (List ℕ) → Type 0
AreShorter n [] = Unit {0}
AreShorter n (end ∷ ends) = (length end < n) × AreShorter (length end) ends

shorter_for_more : (m n : ℕ) (ends : List (List ℕ)) → m ≤ n → AreShorter m ends → AreShorter n ends
shorter_for_more m n [] more h = tt
shorter_for_more m n (end ∷ ends) more h = (omega (arith, h.0), h.1)

behind_shorter : (host : List ℕ) → AreShorter (length host) (ends_behind host)
behind_shorter [] = tt
behind_shorter (b ∷ rest) =
    let less : length rest ≤ length (b ∷ rest) = omega arith in
    ⊎_elim
    (λ dot. subst (AreShorter (length (b ∷ rest))) (sym (cond-true (b == 46) (rest ∷ ends_behind rest) (ends_behind rest) dot)) (omega arith, behind_shorter rest))
    (λ other. subst (AreShorter (length (b ∷ rest))) (sym (cond-false (b == 46) (rest ∷ ends_behind rest) (ends_behind rest) other)) (shorter_for_more (length rest) (length (b ∷ rest)) (ends_behind rest) less (behind_shorter rest)))
    (cases_Bool (b == 46))

unless_shorter : (ip : Bool) (n : ℕ) (ends : List (List ℕ)) → AreShorter n ends → AreShorter n (cond ip [] ends)
unless_shorter true n ends h = tt
unless_shorter false n ends h = h

in_shorter : (n : ℕ) (ends : List (List ℕ)) (end : List ℕ) → AreShorter n ends → In end ends → length end < n
in_shorter n [] end h i = absurd i
in_shorter n (first ∷ ends) end h (inl e) = subst (λ (t : List ℕ). length t < n) e h.0
in_shorter n (first ∷ ends) end h (inr i) = let l : length end < length first = in_shorter (length first) ends end h.1 i in omega (arith, h.0)

-- ---- the first that is named

abbrev is_among : List (List ℕ) → DomainEntry → Bool
is_among ends entry = list_any (bytes_eq entry.domain) ends

-- an entry among the first and the others is the first, or shorter
among_or_shorter : (n : ℕ) (end : List ℕ) (ends : List (List ℕ)) (entry : DomainEntry) → AreShorter n (end ∷ ends) → is_among (end ∷ ends) entry ≡ true
    → (entry.domain ≡ end) ⊎ (length entry.domain < length end)
among_or_shorter n end ends entry h among =
    ⊎_elim
    (λ first. inl ((bytes_eq-Decides entry.domain end).0 first))
    (λ later.
    let r = any_out (bytes_eq entry.domain) ends later in
    let e = (bytes_eq-Decides entry.domain r.0).0 r.2 in
    inr (subst (λ (t : List ℕ). length t < length end) (sym e) (in_shorter (length end) ends r.0 h.1 r.1)))
    (or_cases (bytes_eq entry.domain end) (list_any (bytes_eq entry.domain) ends) among)

not_empty : (entries found : List DomainEntry) (entry : DomainEntry) → In entry found
    → longest_is_listed entries found ≡ list_any (λ x. not x.excluded && is_longest found x) found
not_empty entries [] entry i = absurd i
not_empty entries (first ∷ others) entry i = refl

-- where an entry names the first end, the entries that name it decide
pub first_decides : (n : ℕ) (entries : List DomainEntry) (end : List ℕ) (ends : List (List ℕ)) (named : DomainEntry) → AreShorter n (end ∷ ends) → In named entries → named.domain ≡ end
    → longest_is_listed entries (filter (is_among (end ∷ ends)) entries) ≡ is_listed entries end
first_decides n entries end ends named h there is =
    let found = filter (is_among (end ∷ ends)) entries in
    let among_first : (entry : DomainEntry) → entry.domain ≡ end → is_among (end ∷ ends) entry ≡ true
    = λ entry e. or_left (bytes_eq entry.domain end) (list_any (bytes_eq entry.domain) ends) ((bytes_eq-Decides entry.domain end).1 e) in
    let here = in_filtered (is_among (end ∷ ends)) named entries there (among_first named is) in
    not_empty entries found named here
    ∙ same_answer (list_any (λ x. not x.excluded && is_longest found x) found) (is_listed entries end)
    (λ any.
    let r = any_out (λ x. not x.excluded && is_longest found x) found any in
    let p = and_parts (not r.0.excluded) (is_longest found r.0) r.2 in
    let q = in_unfiltered (is_among (end ∷ ends)) r.0 entries r.1 in
    let no_longer : length named.domain ≤ length r.0.domain = leb-true (length named.domain) (length r.0.domain) (all_in (λ x. nat_le (length x.domain) (length r.0.domain)) named found here p.1) in
    ⊎_elim
    (λ same. any_in (λ x. not x.excluded && bytes_eq x.domain end) r.0 entries q.0 (and_from (not r.0.excluded) (bytes_eq r.0.domain end) p.0 ((bytes_eq-Decides r.0.domain end).1 same)))
    (λ shorter. absurd (omega (arith, ap length is, no_longer, shorter)))
    (among_or_shorter n end ends r.0 h q.1))
    (λ listed.
    let r = any_out (λ x. not x.excluded && bytes_eq x.domain end) entries listed in
    let p = and_parts (not r.0.excluded) (bytes_eq r.0.domain end) r.2 in
    let e = (bytes_eq-Decides r.0.domain end).0 p.1 in
    let longest : is_longest found r.0 ≡ true = all_from (λ x. nat_le (length x.domain) (length r.0.domain)) found (λ x i.
    let q = in_unfiltered (is_among (end ∷ ends)) x entries i in
    let same : length r.0.domain ≡ length end = ap length e in
    ⊎_elim
    (λ equal. let s : length x.domain ≡ length end = ap length equal in le-leb (length x.domain) (length r.0.domain) (omega arith))
    (λ shorter. le-leb (length x.domain) (length r.0.domain) (omega arith))
    (among_or_shorter n end ends x h q.1)) in
    any_in (λ x. not x.excluded && is_longest found x) r.0 found (in_filtered (is_among (end ∷ ends)) r.0 entries r.1 (among_first r.0 e)) (and_from (not r.0.excluded) (is_longest found r.0) p.0 longest))

-- where none does, the other ends decide
none_names : (entries : List DomainEntry) (end : List ℕ) (ends : List (List ℕ)) → ((entry : DomainEntry) → In entry entries → bytes_eq entry.domain end ≡ false)
    → filter (is_among (end ∷ ends)) entries ≡ filter (is_among ends) entries
none_names entries end ends none = filter_same (is_among (end ∷ ends)) (is_among ends) entries (λ entry i. ap (λ t. t || list_any (bytes_eq entry.domain) ends) (none entry i))

unnamed : (entries : List DomainEntry) (end : List ℕ) → is_listed entries end ≡ false → is_excluded entries end ≡ false → (entry : DomainEntry) → In entry entries → bytes_eq entry.domain end ≡ false
unnamed entries end l x entry i =
    ⊎_elim
    (λ same.
    ⊎_elim
    (λ excluded. absurd (true_is_false (sym (any_in (λ e. e.excluded && bytes_eq e.domain end) entry entries i (and_from entry.excluded (bytes_eq entry.domain end) excluded same)) ∙ x)))
    (λ listed. absurd (true_is_false (sym (any_in (λ e. not e.excluded && bytes_eq e.domain end) entry entries i (and_from (not entry.excluded) (bytes_eq entry.domain end) (not_from_false entry.excluded listed) same)) ∙ l)))
    (cases_Bool entry.excluded))
    (λ other. other)
    (cases_Bool (bytes_eq entry.domain end))
  where
    true_is_false : true ≡ false → ⊥
    true_is_false e = cc

by_ends : (n : ℕ) (entries : List DomainEntry) (ends : List (List ℕ)) → AreShorter n ends → longest_is_listed entries (filter (is_among ends) entries) ≡ applies_by ends entries
by_ends n entries [] h = ap (longest_is_listed entries) (nothing entries)
  where
    nothing : (some : List DomainEntry) → filter (is_among []) some ≡ []
    nothing [] = refl
    nothing (entry ∷ some) = nothing some
by_ends n entries (end ∷ ends) h =
    ⊎_elim
    (λ listed.
    let r = any_out (λ e. not e.excluded && bytes_eq e.domain end) entries listed in
    let p = and_parts (not r.0.excluded) (bytes_eq r.0.domain end) r.2 in
    first_decides n entries end ends r.0 h r.1 ((bytes_eq-Decides r.0.domain end).0 p.1) ∙ listed
    ∙ sym (ap (λ (o : Option Bool). unwrap_or (or_else o (said entries ends)) (lists_none entries)) (cond-true (is_listed entries end) (Some true) _ listed)))
    (λ not_listed.
    ⊎_elim
    (λ excluded.
    let r = any_out (λ e. e.excluded && bytes_eq e.domain end) entries excluded in
    let p = and_parts r.0.excluded (bytes_eq r.0.domain end) r.2 in
    first_decides n entries end ends r.0 h r.1 ((bytes_eq-Decides r.0.domain end).0 p.1) ∙ not_listed
    ∙ sym (ap (λ (o : Option Bool). unwrap_or (or_else o (said entries ends)) (lists_none entries)) (cond-false (is_listed entries end) (Some true) _ not_listed ∙ cond-true (is_excluded entries end) (Some false) None excluded)))
    (λ not_excluded.
    ap (longest_is_listed entries) (none_names entries end ends (unnamed entries end not_listed not_excluded))
    ∙ by_ends (length end) entries ends h.1
    ∙ sym (ap (λ (o : Option Bool). unwrap_or (or_else o (said entries ends)) (lists_none entries)) (cond-false (is_listed entries end) (Some true) _ not_listed ∙ cond-false (is_excluded entries end) (Some false) None not_excluded)))
    (cases_Bool (is_excluded entries end)))
    (cases_Bool (is_listed entries end))

pub applies_by_ends : (entries : List DomainEntry) (host : List ℕ) → is_for entries (Some host) ≡ applies_by (ends_of host) entries
applies_by_ends entries host =
    let less : length host < length host + 1 = omega arith in
    ap (longest_is_listed entries) (filter_same (λ entry. covers entry.domain host) (is_among (ends_of host)) entries (λ entry i. covers_ends entry.domain host))
    ∙ by_ends (length host + 1) entries (ends_of host) (less, unless_shorter (is_ip_host host) (length host) (ends_behind host) (behind_shorter host))
