-- The filter is for an initiator exactly where one of its rules holds there.
use Rattle.std.proofs.Common.{◌≡◌, ℕ, ◌≤◌, ◌<◌, List, [], ◌∷◌, ◌++◌, length, map, true, false, not, ◌&&◌, Option, Some, None, inl, inr, refl, sym, ap, ◌∙◌, subst, ⊎_elim, arith}
use Rattle.std.specs.Prelude.{nat_le}
use Rattle.std.specs.List.{list_any}
use Rattle.std.proofs.lemmas.Bool.{and_parts, and_from, not_from_true, not_from_false, not-true, le-leb, leb-true, cases_lt, true≢false, false_from_ne_true, true_from_ne_false, and_left}
use Rattle.std.proofs.lemmas.Bool.Decides.{same_from_decides}
use Rattle.dnr_spec.specs.Domains.{covers, covers_some}
use Rattle.list_spec.specs.declared.domain_entry.DomainEntry.{DomainEntry}
use Rattle.list_spec.specs.Says.{covering, is_longest, lists_none, longest_is_listed, is_for}
use Rattle.compile_spec.specs.Initiators.{listed_in, excluded_in, nested, not_nested, shared, single, in_several, initiators_of}
use Rattle.compile_laws.proofs.Bools.{or_false}
use Rattle.compile_laws.proofs.Lists.{In, each_in, in_each, any_in, any_out, none_out, in_filtered, in_unfiltered, each_passes, all_pass}
use Rattle.compile_laws.proofs.Covered.{reads_covers, same_length}
use Rattle.compile_laws.proofs.Supported.{AreEntries}
use Rattle.compile_laws.proofs.Among.{Names, listed_is_in, listed_names, excluded_is_in, excluded_names, AreApart, are_apart, IsMeant, admits, admits_host, rules_mean, meant_rules}

-- ---- the longest entry

-- an entry of the list, and none is longer
pub record IsLongest (entries : List DomainEntry) : Type 0 where
  pub entry : DomainEntry
  pub there : In entry entries
  pub longest : (other : DomainEntry) → In other entries → length other.domain ≤ length entry.domain

one_longest : (entry : DomainEntry) (entries : List DomainEntry) → IsLongest (entry ∷ entries)
one_longest entry [] = record { entry = entry; there = inl refl; longest = λ other i. ⊎_elim (λ e. omega (arith, ap (λ (x : DomainEntry). length x.domain) e)) (λ none. absurd none) i }
one_longest entry (next ∷ entries) =
    let rest = one_longest next entries in
    ⊎_elim
    (λ (less : length entry.domain < length rest.entry.domain). record {
      entry = rest.entry;
      there = inr rest.there;
      longest = λ other i. ⊎_elim (λ e. omega (arith, ap (λ (x : DomainEntry). length x.domain) e)) (λ j. rest.longest other j) i;
    })
    (λ (more : length rest.entry.domain ≤ length entry.domain). record {
      entry = entry;
      there = inl refl;
      longest = λ other i. ⊎_elim (λ e. omega (arith, ap (λ (x : DomainEntry). length x.domain) e)) (λ j. omega (arith, rest.longest other j)) i;
    })
    (cases_lt (length entry.domain) (length rest.entry.domain))

longest_passes : (entries : List DomainEntry) (longest : IsLongest entries) → is_longest entries longest.entry ≡ true
longest_passes entries longest =
    all_pass (λ other. nat_le (length other.domain) (length longest.entry.domain)) entries
    (in_each (λ other. nat_le (length other.domain) (length longest.entry.domain) ≡ true) entries (λ other i. le-leb _ _ (longest.longest other i)))

no_longer : (entries : List DomainEntry) (entry other : DomainEntry) → is_longest entries entry ≡ true → In other entries → length other.domain ≤ length entry.domain
no_longer entries entry other h i =
    leb-true _ _ (each_in (λ o. nat_le (length o.domain) (length entry.domain) ≡ true) other entries i (each_passes (λ o. nat_le (length o.domain) (length entry.domain)) entries h))

-- ---- where a domain is listed

module _ (entries : List DomainEntry) (are : AreEntries entries) (host : List ℕ) where
  by_longest : (list : List DomainEntry) → covering entries host ≡ list → lists_none entries ≡ false → longest_is_listed entries list ≡ true → IsMeant (listed_in entries) (excluded_in entries) host
  by_longest [] is none h = absurd (true≢false (sym h ∙ none))
  by_longest (first ∷ others) is none h =
      let r = any_out (λ entry. not entry.excluded && is_longest (first ∷ others) entry) (first ∷ others) h in
      let p = and_parts (not r.0.excluded) (is_longest (first ∷ others) r.0) r.2 in
      let q = in_unfiltered (λ entry. covers entry.domain host) r.0 entries (subst (λ (l : List DomainEntry). In r.0 l) (sym is) r.1) in
      record {
        domain = r.0.domain;
        there = listed_is_in entries r.0 q.0 (not-true r.0.excluded p.0);
        covered = q.1;
        longest = λ other x o.
            let names = excluded_names entries other x in
            let covered = subst (λ (d : List ℕ). covers d host ≡ true) (sym names.named) o in
            let inside = subst (λ (l : List DomainEntry). In names.entry l) is (in_filtered (λ entry. covers entry.domain host) names.entry entries names.there covered) in
            subst (λ (d : List ℕ). length d ≤ length r.0.domain) names.named (no_longer (first ∷ others) r.0 names.entry p.1 inside);
      }

  is_longest_listed : (list : List DomainEntry) → covering entries host ≡ list → IsMeant (listed_in entries) (excluded_in entries) host → longest_is_listed entries list ≡ true
  is_longest_listed list is meant =
      let names = listed_names entries meant.domain meant.there in
      let covered = subst (λ (d : List ℕ). covers d host ≡ true) (sym names.named) meant.covered in
      let inside : In names.entry list = subst (λ (l : List DomainEntry). In names.entry l) is (in_filtered (λ entry. covers entry.domain host) names.entry entries names.there covered) in
      go list is names inside
    where
      here : (first : DomainEntry) (others : List DomainEntry) → covering entries host ≡ first ∷ others → (names : Names entries false meant.domain) → In names.entry (first ∷ others)
          → (longest : IsLongest (first ∷ others)) → longest.entry.excluded ≡ false
      here first others is names inside longest = false_from_ne_true longest.entry.excluded (λ excluded.
          let q = in_unfiltered (λ entry. covers entry.domain host) longest.entry entries (subst (λ (l : List DomainEntry). In longest.entry l) (sym is) longest.there) in
          let x = excluded_is_in entries longest.entry q.0 excluded in
          let most = meant.longest longest.entry.domain x q.1 in
          let least = subst (λ (d : List ℕ). length d ≤ length longest.entry.domain) names.named (longest.longest names.entry inside) in
          let equal : length longest.entry.domain ≡ length meant.domain = omega arith in
          let same = same_length longest.entry.domain meant.domain host (reads_covers longest.entry.domain host q.1) (reads_covers meant.domain host meant.covered) equal in
          (are_apart entries are).apart meant.domain meant.there (subst (λ (d : List ℕ). In d (excluded_in entries)) same x))

      go : (l : List DomainEntry) → covering entries host ≡ l → (names : Names entries false meant.domain) → In names.entry l → longest_is_listed entries l ≡ true
      go [] is names inside = absurd inside
      go (first ∷ others) is names inside =
          let longest = one_longest first others in
          any_in (λ entry. not entry.excluded && is_longest (first ∷ others) entry) longest.entry (first ∷ others) longest.there
          (and_from (not longest.entry.excluded) (is_longest (first ∷ others) longest.entry) (not_from_false longest.entry.excluded (here first others is names inside longest)) (longest_passes (first ∷ others) longest))

-- ---- where none is listed

none_listed : (entries : List DomainEntry) → listed_in entries ≡ [] → lists_none entries ≡ true
none_listed entries none =
    all_pass (λ entry. entry.excluded) entries (in_each (λ entry. entry.excluded ≡ true) entries (λ entry i. true_from_ne_false entry.excluded (λ listed.
    subst (λ (l : List (List ℕ)). In entry.domain l) none (listed_is_in entries entry i listed))))

some_listed : (entries : List DomainEntry) (domain : List ℕ) (domains : List (List ℕ)) → listed_in entries ≡ domain ∷ domains → lists_none entries ≡ false
some_listed entries domain domains some =
    let names = listed_names entries domain (subst (λ (l : List (List ℕ)). In domain l) (sym some) (inl refl)) in
    false_from_ne_true (lists_none entries) (λ all. true≢false (sym (each_in (λ entry. entry.excluded ≡ true) names.entry entries names.there (each_passes (λ entry. entry.excluded) entries all)) ∙ names.mark))

-- with no listed domain the excluded ones alone count
only_excluded : (entries : List DomainEntry) (host : List ℕ) (list : List DomainEntry) → covering entries host ≡ list → lists_none entries ≡ true → not (covers_some (excluded_in entries) host) ≡ longest_is_listed entries list
only_excluded entries host [] is none =
    let free : covers_some (excluded_in entries) host ≡ false = none_out (λ entry. covers entry host) (excluded_in entries) (λ other x. false_from_ne_true (covers other host) (λ o.
    let names = excluded_names entries other x in
    let covered = subst (λ (d : List ℕ). covers d host ≡ true) (sym names.named) o in
    subst (λ (l : List DomainEntry). In names.entry l) is (in_filtered (λ entry. covers entry.domain host) names.entry entries names.there covered))) in
    ap not free ∙ sym none
only_excluded entries host (first ∷ others) is none =
    let all = each_passes (λ entry. entry.excluded) entries none in
    let q = in_unfiltered (λ entry. covers entry.domain host) first entries (subst (λ (l : List DomainEntry). In first l) (sym is) (inl refl)) in
    let x = excluded_is_in entries first q.0 (each_in (λ entry. entry.excluded ≡ true) first entries q.0 all) in
    let covered : covers_some (excluded_in entries) host ≡ true = any_in (λ entry. covers entry host) first.domain (excluded_in entries) x q.1 in
    let decided : longest_is_listed entries (first ∷ others) ≡ false = none_out (λ entry. not entry.excluded && is_longest (first ∷ others) entry) (first ∷ others) (λ entry i.
    let p = in_unfiltered (λ e. covers e.domain host) entry entries (subst (λ (l : List DomainEntry). In entry l) (sym is) i) in
    and_left (not entry.excluded) (is_longest (first ∷ others) entry) (not_from_true entry.excluded (each_in (λ e. e.excluded ≡ true) entry entries p.0 all))) in
    ap not covered ∙ sym decided

-- ---- without an initiator

singles_none : (excluded domains : List (List ℕ)) → list_any (admits None) (map (single excluded) domains) ≡ false
singles_none excluded [] = refl
singles_none excluded (domain ∷ domains) = singles_none excluded domains

shared_none : (excluded domains others : List (List ℕ)) → list_any (admits None) (shared excluded domains ++ map (single excluded) others) ≡ false
shared_none excluded [] others = singles_none excluded others
shared_none excluded (domain ∷ domains) others = singles_none excluded others

listed_need_one : (excluded : List (List ℕ)) (domain : List ℕ) (domains under : List (List ℕ)) → list_any (admits None) (in_several excluded (domain ∷ domains) under) ≡ false
listed_need_one excluded domain domains [] = refl
listed_need_one excluded domain domains (first ∷ under) = shared_none excluded (not_nested excluded (domain ∷ domains)) (first ∷ under)

-- ---- both

both_same : (entries : List DomainEntry) (are : AreEntries entries) (listed : List (List ℕ)) → listed_in entries ≡ listed → (initiator : Option (List ℕ))
    → list_any (admits initiator) (in_several (excluded_in entries) listed (nested (excluded_in entries) listed)) ≡ is_for entries initiator
both_same entries are [] none None = sym (none_listed entries none)
both_same entries are [] none (Some host) = or_false _ ∙ only_excluded entries host (covering entries host) refl (none_listed entries none)
both_same entries are (domain ∷ domains) some None = listed_need_one (excluded_in entries) domain domains (nested (excluded_in entries) (domain ∷ domains)) ∙ sym (some_listed entries domain domains some)
both_same entries are (domain ∷ domains) some (Some host) =
    let apart = subst (λ (l : List (List ℕ)). AreApart l (excluded_in entries)) some (are_apart entries are) in
    same_from_decides {P = IsMeant (domain ∷ domains) (excluded_in entries) host}
    (list_any (admits_host host) (in_several (excluded_in entries) (domain ∷ domains) (nested (excluded_in entries) (domain ∷ domains))))
    (longest_is_listed entries (covering entries host))
    (rules_mean (domain ∷ domains) (excluded_in entries) host apart (omega arith), meant_rules (domain ∷ domains) (excluded_in entries) host apart) (
      λ h. subst (λ (l : List (List ℕ)). IsMeant l (excluded_in entries) host) some (by_longest entries are host (covering entries host) refl (some_listed entries domain domains some) h),
      λ m. is_longest_listed entries are host (covering entries host) refl (subst (λ (l : List (List ℕ)). IsMeant l (excluded_in entries) host) (sym some) m),
    )

-- one of the rules holds for the initiator exactly where the filter is for it
pub is_for_rules : (entries : List DomainEntry) → AreEntries entries → (initiator : Option (List ℕ)) → list_any (admits initiator) (initiators_of entries) ≡ is_for entries initiator
is_for_rules entries are initiator = both_same entries are (listed_in entries) refl initiator
