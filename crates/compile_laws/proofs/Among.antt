-- The initiators of a filter's rules are those of the filter.
use Rattle.std.proofs.Common.{◌≡◌, ℕ, ◌≤◌, ◌<◌, List, [], ◌∷◌, ◌++◌, length, map, Bool, true, false, not, ◌||◌, ◌&&◌, Option, Some, ◌⊎◌, inl, inr, sym, ap, ◌∙◌, subst, ⊎_elim, arith}
use Rattle.std.specs.Prelude.{filter}
use Rattle.std.specs.List.{list_any}
use Rattle.std.specs.Str.{bytes_eq}
use Rattle.std.proofs.lemmas.Bool.{and_parts, and_from, or_left, not_from_false, not-true, cases_lt, true≢false, false_from_ne_true}
use Rattle.std.proofs.lemmas.Slice.Eq.{bytes_eq-Decides}
use Rattle.dnr_spec.specs.Domains.{is_domain, covers, covers_some}
use Rattle.rule_spec.specs.Holds.{is_from, is_not_from}
use Rattle.list_spec.specs.declared.domain_entry.DomainEntry.{DomainEntry}
use Rattle.list_spec.specs.Entries.{is_excluded}
use Rattle.compile_spec.specs.Initiators.{Initiators, each_once, listed_in, excluded_in, lies_under, lies_under_some, those_under, nested, not_nested, in_one, shared, single, in_several}
use Rattle.compile_laws.proofs.Bools.{or_nothing}
use Rattle.compile_laws.proofs.Lists.{Has, In, has_passing, any_passes, true_or_false, has_in, in_has, each_in, any_in, any_out, none_in, none_out, in_filtered, in_unfiltered, has_mapped, has_unmapped, has_unfiltered, has_weaker, has_left, has_right, has_either}
use Rattle.compile_laws.proofs.Covered.{reads_covers, is_covered, same_length, is_longer, shorter_covers}
use Rattle.compile_laws.proofs.Supported.{IsEntry, AreEntries}

-- ---- each domain once

kept_or_same : (P : List ℕ → Type 0) (domain : List ℕ) (domains : List (List ℕ)) → Has P domains → P domain ⊎ Has P (filter (λ other. not (bytes_eq other domain)) domains)
kept_or_same P domain domains h =
    let r = has_in P domains h in
    ⊎_elim
    (λ same. inl (subst P ((bytes_eq-Decides r.0 domain).0 same) r.2))
    (λ other. inr (in_has P r.0 _ (in_filtered (λ o. not (bytes_eq o domain)) r.0 domains r.1 (not_from_false (bytes_eq r.0 domain) other)) r.2))
    (true_or_false (bytes_eq r.0 domain))

once_has : (P : List ℕ → Type 0) (domains : List (List ℕ)) → Has P domains → Has P (each_once domains)
once_has P [] h = h
once_has P (domain ∷ domains) (inl h) = inl h
once_has P (domain ∷ domains) (inr h) = kept_or_same P domain (each_once domains) (once_has P domains h)

once_had : (P : List ℕ → Type 0) (domains : List (List ℕ)) → Has P (each_once domains) → Has P domains
once_had P [] h = h
once_had P (domain ∷ domains) (inl h) = inl h
once_had P (domain ∷ domains) (inr h) =
    let all = has_unfiltered P (λ other. not (bytes_eq other domain)) (each_once domains) h in
    inr (once_had P domains (has_weaker (λ o. (not (bytes_eq o domain) ≡ true) × P o) P (λ o e. e.1) (each_once domains) all))

-- ---- entries and their domains

-- an entry with this domain
pub record Names (entries : List DomainEntry) (excluded : Bool) (domain : List ℕ) : Type 0 where
  pub entry : DomainEntry
  pub there : In entry entries
  pub mark : entry.excluded ≡ excluded
  pub named : entry.domain ≡ domain

in_domains : (entries : List DomainEntry) (test : DomainEntry → Bool) (entry : DomainEntry) → In entry entries → test entry ≡ true
    → In entry.domain (each_once (map (λ e. e.domain) (filter test entries)))
in_domains entries test entry i passes =
    once_has (λ d. d ≡ entry.domain) (map (λ e. e.domain) (filter test entries))
    (has_mapped (λ d. d ≡ entry.domain) (λ e. e.domain) (filter test entries) (has_weaker (λ e. e ≡ entry) (λ e. e.domain ≡ entry.domain) (λ e same. ap (λ (x : DomainEntry). x.domain) same) (filter test entries)
    (in_filtered test entry entries i passes)))

of_domains : (entries : List DomainEntry) (test : DomainEntry → Bool) (domain : List ℕ) → In domain (each_once (map (λ e. e.domain) (filter test entries)))
    → (entry : DomainEntry) × In entry entries × (test entry ≡ true) × (entry.domain ≡ domain)
of_domains entries test domain i =
    let mapped = has_unmapped (λ d. d ≡ domain) (λ (e : DomainEntry). e.domain) (filter test entries) (once_had (λ d. d ≡ domain) (map (λ e. e.domain) (filter test entries)) i) in
    let r = has_in (λ (e : DomainEntry). e.domain ≡ domain) (filter test entries) mapped in
    let q = in_unfiltered test r.0 entries r.1 in
    (r.0, q.0, q.1, r.2)

pub listed_is_in : (entries : List DomainEntry) (entry : DomainEntry) → In entry entries → entry.excluded ≡ false → In entry.domain (listed_in entries)
listed_is_in entries entry i h = in_domains entries (λ e. not e.excluded) entry i (not_from_false entry.excluded h)

pub listed_names : (entries : List DomainEntry) (domain : List ℕ) → In domain (listed_in entries) → Names entries false domain
listed_names entries domain i = let r = of_domains entries (λ e. not e.excluded) domain i in record { entry = r.0; there = r.1; mark = not-true r.0.excluded r.2; named = r.3 }

pub excluded_is_in : (entries : List DomainEntry) (entry : DomainEntry) → In entry entries → entry.excluded ≡ true → In entry.domain (excluded_in entries)
excluded_is_in entries entry i h = in_domains entries (λ e. e.excluded) entry i h

pub excluded_names : (entries : List DomainEntry) (domain : List ℕ) → In domain (excluded_in entries) → Names entries true domain
excluded_names entries domain i = let r = of_domains entries (λ e. e.excluded) domain i in record { entry = r.0; there = r.1; mark = r.2; named = r.3 }

-- none is both listed and excluded
apart : (entries : List DomainEntry) → AreEntries entries → (domain : List ℕ) → In domain (listed_in entries) → In domain (excluded_in entries) → ⊥
apart entries are domain l x =
    let a = listed_names entries domain l in
    let b = excluded_names entries domain x in
    let same : bytes_eq b.entry.domain a.entry.domain ≡ true = (bytes_eq-Decides b.entry.domain a.entry.domain).1 (b.named ∙ sym a.named) in
    let excluded : is_excluded entries a.entry.domain ≡ true = any_in (λ e. e.excluded && bytes_eq e.domain a.entry.domain) b.entry entries b.there (and_from b.entry.excluded (bytes_eq b.entry.domain a.entry.domain) b.mark same) in
    let conflict = any_in (λ e. not e.excluded && is_excluded entries e.domain) a.entry entries a.there (and_from (not a.entry.excluded) (is_excluded entries a.entry.domain) (not_from_false a.entry.excluded a.mark) excluded) in
    true≢false (sym conflict ∙ are.apart)

-- the domains of a supported filter
pub record AreApart (listed excluded : List (List ℕ)) : Type 0 where
  pub listed_domains : (domain : List ℕ) → In domain listed → is_domain domain ≡ true
  pub excluded_domains : (domain : List ℕ) → In domain excluded → is_domain domain ≡ true
  pub apart : (domain : List ℕ) → In domain listed → In domain excluded → ⊥

is_entry_domain : (entries : List DomainEntry) (excluded : Bool) (domain : List ℕ) → AreEntries entries → Names entries excluded domain → is_domain domain ≡ true
is_entry_domain entries excluded domain are names =
    let is = each_in IsEntry names.entry entries names.there are.each in
    subst (λ (d : List ℕ). is_domain d ≡ true) names.named is.domain

pub are_apart : (entries : List DomainEntry) → AreEntries entries → AreApart (listed_in entries) (excluded_in entries)
are_apart entries are = record {
  listed_domains = λ domain i. is_entry_domain entries false domain are (listed_names entries domain i);
  excluded_domains = λ domain i. is_entry_domain entries true domain are (excluded_names entries domain i);
  apart = apart entries are;
}

-- ---- what both say

-- a listed domain covers the host, and no excluded one that does is longer
pub record IsMeant (listed excluded : List (List ℕ)) (host : List ℕ) : Type 0 where
  pub domain : List ℕ
  pub there : In domain listed
  pub covered : covers domain host ≡ true
  pub longest : (other : List ℕ) → In other excluded → covers other host ≡ true → length other ≤ length domain

-- the rule of these initiators holds there
abbrev pub admits : Option (List ℕ) → Initiators → Bool
admits host initiators = is_from initiators.among host && is_not_from initiators.not_among host

abbrev pub admits_host : List ℕ → Initiators → Bool
admits_host host initiators = admits (Some host) initiators

any_left : {X : Type 0} (test : X → Bool) (xs ys : List X) → list_any test xs ≡ true → list_any test (xs ++ ys) ≡ true
any_left test xs ys h = any_passes test (xs ++ ys) (has_left (λ x. test x ≡ true) xs ys (has_passing test xs h))

any_right : {X : Type 0} (test : X → Bool) (xs ys : List X) → list_any test ys ≡ true → list_any test (xs ++ ys) ≡ true
any_right test xs ys h = any_passes test (xs ++ ys) (has_right (λ x. test x ≡ true) xs ys (has_passing test ys h))

-- ---- the rules say so

module _ (listed excluded : List (List ℕ)) (host : List ℕ) (are : AreApart listed excluded) where
  under_some : (domain other : List ℕ) → In domain listed → In other excluded → covers domain host ≡ true → covers other host ≡ true → length domain < length other
      → covers_some (those_under domain excluded) host ≡ true
  under_some domain other l x d o less =
      let longer = shorter_covers domain other host (reads_covers domain host d) (reads_covers other host o) less (are.listed_domains domain l) (are.excluded_domains other x) in
      let differs : bytes_eq other domain ≡ false = false_from_ne_true (bytes_eq other domain) (λ same. absurd (omega (arith, ap length ((bytes_eq-Decides other domain).0 same)))) in
      let under : lies_under domain other ≡ true = and_from (not (bytes_eq other domain)) (covers domain other) (not_from_false (bytes_eq other domain) differs) (is_covered domain other longer) in
      any_in (λ entry. covers entry host) other (those_under domain excluded) (in_filtered (lies_under domain) other excluded x under) o

  -- a rule that excludes all
  by_all : (domain : List ℕ) → In domain listed → covers domain host ≡ true → covers_some excluded host ≡ false → IsMeant listed excluded host
  by_all domain l d none = record {
    domain = domain;
    there = l;
    covered = d;
    longest = λ other x o. absurd (true≢false (sym o ∙ none_in (λ entry. covers entry host) other excluded none x));
  }

  -- a rule of one domain
  by_single : (domain : List ℕ) → In domain listed → admits_host host (single excluded domain) ≡ true → IsMeant listed excluded host
  by_single domain l h =
      let p = and_parts (covers domain host || false) (not (covers_some (those_under domain excluded) host)) h in
      let d : covers domain host ≡ true = or_nothing (covers domain host) p.0 in
      record {
        domain = domain;
        there = l;
        covered = d;
        longest = λ other x o. ⊎_elim
            (λ less. absurd (true≢false (sym (under_some domain other l x d o less) ∙ not-true (covers_some (those_under domain excluded) host) p.1)))
            (λ no_less. no_less)
            (cases_lt (length domain) (length other));
      }

  by_list : (domains : List (List ℕ)) → ((domain : List ℕ) → In domain domains → In domain listed) → (covers_some domains host && not (covers_some excluded host)) ≡ true → IsMeant listed excluded host
  by_list domains inside h =
      let p = and_parts (covers_some domains host) (not (covers_some excluded host)) h in
      let r = any_out (λ entry. covers entry host) domains p.0 in
      by_all r.0 (inside r.0 r.1) r.2 (not-true (covers_some excluded host) p.1)

  by_shared : (domains : List (List ℕ)) → ((domain : List ℕ) → In domain domains → In domain listed) → list_any (admits_host host) (shared excluded domains) ≡ true → IsMeant listed excluded host
  by_shared [] inside h = cc
  by_shared (domain ∷ domains) inside h = by_list (domain ∷ domains) inside (or_nothing _ h)

  by_one : (domains : List (List ℕ)) → ((domain : List ℕ) → In domain domains → In domain listed) → 0 < length domains → admits_host host (in_one excluded domains) ≡ true → IsMeant listed excluded host
  by_one [] inside some h = absurd (omega arith)
  by_one (domain ∷ domains) inside some h = by_list (domain ∷ domains) inside h

  inside_nested : (domain : List ℕ) → In domain (nested excluded listed) → In domain listed
  inside_nested domain i = (in_unfiltered (lies_under_some excluded) domain listed i).0

  inside_others : (domain : List ℕ) → In domain (not_nested excluded listed) → In domain listed
  inside_others domain i = (in_unfiltered (λ d. not (lies_under_some excluded d)) domain listed i).0

  by_singles : (domains : List (List ℕ)) → ((domain : List ℕ) → In domain domains → In domain listed) → list_any (admits_host host) (map (single excluded) domains) ≡ true → IsMeant listed excluded host
  by_singles domains inside h =
      let r = has_in (λ d. admits_host host (single excluded d) ≡ true) domains (has_unmapped (λ i. admits_host host i ≡ true) (single excluded) domains (has_passing (admits_host host) (map (single excluded) domains) h)) in
      by_single r.0 (inside r.0 r.1) r.2

  by_several : (under : List (List ℕ)) → ((domain : List ℕ) → In domain under → In domain listed) → 0 < length listed → list_any (admits_host host) (in_several excluded listed under) ≡ true → IsMeant listed excluded host
  by_several [] inside some h = by_one listed (λ domain i. i) some (or_nothing _ h)
  by_several (domain ∷ domains) inside some h =
      ⊎_elim
      (λ e. by_shared (not_nested excluded listed) inside_others (any_passes (admits_host host) (shared excluded (not_nested excluded listed)) e))
      (λ e. by_singles (domain ∷ domains) inside (any_passes (admits_host host) (map (single excluded) (domain ∷ domains)) e))
      (has_either (λ i. admits_host host i ≡ true) (shared excluded (not_nested excluded listed)) (map (single excluded) (domain ∷ domains))
      (has_passing (admits_host host) (in_several excluded listed (domain ∷ domains)) h))

  -- ---- and nothing else

  -- the domain that is meant is not nested, so no excluded domain covers the host
  none_covers : (meant : IsMeant listed excluded host) → lies_under_some excluded meant.domain ≡ false → covers_some excluded host ≡ false
  none_covers meant free =
      none_out (λ entry. covers entry host) excluded (λ other x. false_from_ne_true (covers other host) (λ o.
      let no_longer = meant.longest other x o in
      let here = reads_covers other host o in
      let there = reads_covers meant.domain host meant.covered in
      ⊎_elim
      (λ less.
      let covered = is_covered other meant.domain (shorter_covers other meant.domain host here there less (are.excluded_domains other x) (are.listed_domains meant.domain meant.there)) in
      let differs : bytes_eq meant.domain other ≡ false = false_from_ne_true (bytes_eq meant.domain other) (λ same. absurd (omega (arith, ap length ((bytes_eq-Decides meant.domain other).0 same)))) in
      let under : lies_under other meant.domain ≡ true = and_from (not (bytes_eq meant.domain other)) (covers other meant.domain) (not_from_false (bytes_eq meant.domain other) differs) covered in
      true≢false (sym under ∙ none_in (λ e. lies_under e meant.domain) other excluded free x))
      (λ no_less.
      let equal : length other ≡ length meant.domain = omega arith in
      let same = same_length other meant.domain host here there equal in
      are.apart meant.domain meant.there (subst (λ (d : List ℕ). In d excluded) same x))
      (cases_lt (length other) (length meant.domain))))

  -- or it is, and no excluded domain under it covers the host
  none_under : (meant : IsMeant listed excluded host) → covers_some (those_under meant.domain excluded) host ≡ false
  none_under meant =
      none_out (λ entry. covers entry host) (those_under meant.domain excluded) (λ other i. false_from_ne_true (covers other host) (λ o.
      let q = in_unfiltered (lies_under meant.domain) other excluded i in
      let p = and_parts (not (bytes_eq other meant.domain)) (covers meant.domain other) q.1 in
      let longer = is_longer meant.domain other (reads_covers meant.domain other p.1)
      (λ same. true≢false (sym ((bytes_eq-Decides other meant.domain).1 (sym same)) ∙ not-true (bytes_eq other meant.domain) p.0)) in
      let no_longer = meant.longest other q.0 o in
      omega arith))

  holds_for : (domains : List (List ℕ)) (meant : IsMeant listed excluded host) → In meant.domain domains → covers_some excluded host ≡ false → (covers_some domains host && not (covers_some excluded host)) ≡ true
  holds_for domains meant i none =
      and_from (covers_some domains host) (not (covers_some excluded host)) (any_in (λ entry. covers entry host) meant.domain domains i meant.covered) (not_from_false (covers_some excluded host) none)

  one_holds : (domains : List (List ℕ)) (meant : IsMeant listed excluded host) → In meant.domain domains → covers_some excluded host ≡ false → admits_host host (in_one excluded domains) ≡ true
  one_holds [] meant i none = absurd i
  one_holds (domain ∷ domains) meant i none = holds_for (domain ∷ domains) meant i none

  shared_holds : (domains : List (List ℕ)) (meant : IsMeant listed excluded host) → In meant.domain domains → covers_some excluded host ≡ false → list_any (admits_host host) (shared excluded domains) ≡ true
  shared_holds [] meant i none = absurd i
  shared_holds (domain ∷ domains) meant i none = or_left _ false (holds_for (domain ∷ domains) meant i none)

  single_holds : (meant : IsMeant listed excluded host) → admits_host host (single excluded meant.domain) ≡ true
  single_holds meant =
      and_from (covers meant.domain host || false) (not (covers_some (those_under meant.domain excluded) host)) (or_left (covers meant.domain host) false meant.covered)
      (not_from_false (covers_some (those_under meant.domain excluded) host) (none_under meant))

  singles_hold : (domains : List (List ℕ)) (meant : IsMeant listed excluded host) → In meant.domain domains → list_any (admits_host host) (map (single excluded) domains) ≡ true
  singles_hold domains meant i =
      any_passes (admits_host host) (map (single excluded) domains)
      (has_mapped (λ j. admits_host host j ≡ true) (single excluded) domains (in_has (λ d. admits_host host (single excluded d) ≡ true) meant.domain domains i (single_holds meant)))

  several_hold : (under : List (List ℕ)) (meant : IsMeant listed excluded host) → (lies_under_some excluded meant.domain ≡ true → In meant.domain under) → list_any (admits_host host) (in_several excluded listed under) ≡ true
  several_hold [] meant inside =
      let free = false_from_ne_true (lies_under_some excluded meant.domain) (λ e. inside e) in
      or_left _ false (one_holds listed meant meant.there (none_covers meant free))
  several_hold (domain ∷ domains) meant inside =
      ⊎_elim
      (λ yes. any_right (admits_host host) (shared excluded (not_nested excluded listed)) (map (single excluded) (domain ∷ domains)) (singles_hold (domain ∷ domains) meant (inside yes)))
      (λ free.
      any_left (admits_host host) (shared excluded (not_nested excluded listed)) (map (single excluded) (domain ∷ domains))
      (shared_holds (not_nested excluded listed) meant (in_filtered (λ d. not (lies_under_some excluded d)) meant.domain listed meant.there (not_from_false (lies_under_some excluded meant.domain) free)) (none_covers meant free)))
      (true_or_false (lies_under_some excluded meant.domain))

  -- where a domain is listed, the rules together hold where the filter is meant
  pub rules_mean : 0 < length listed → list_any (admits_host host) (in_several excluded listed (nested excluded listed)) ≡ true → IsMeant listed excluded host
  rules_mean some h = by_several (nested excluded listed) inside_nested some h

  pub meant_rules : IsMeant listed excluded host → list_any (admits_host host) (in_several excluded listed (nested excluded listed)) ≡ true
  meant_rules meant = several_hold (nested excluded listed) meant (λ e. in_filtered (lies_under_some excluded) meant.domain listed meant.there e)
