-- Entries that are the same as a set.
use Rattle.std.proofs.Common.{◌≡◌, ℕ, List, [], ◌∷◌, map, Bool, true, false, cond, not, ◌&&◌, Option, Some, None, inl, refl, sym, ap, ◌∙◌, subst, ⊎_elim, arith}
use Rattle.std.specs.Prelude.{nat_le, length}
use Rattle.std.specs.List.{list_any, list_all, AllByRecursion}
use Rattle.std.proofs.lemmas.Bool.{or_cases, true≢false}
use Rattle.dnr_spec.specs.Domains.{is_domain, is_address, is_name, covers}
use Rattle.list_spec.specs.declared.domain_entry.DomainEntry.{DomainEntry}
use Rattle.list_spec.specs.Says.{covering, is_longest, lists_none, longest_is_listed, is_for}
use Rattle.compile_spec.specs.Alike.{written_entry, set_of_entries}
use Rattle.compile_laws.proofs.Lists.{In, Has, has_in, each_in, in_each, any_in, any_out, all_pass, each_passes, has_mapped, has_unmapped, has_weaker, in_filtered, in_unfiltered}
use Rattle.compile_laws.proofs.Covered.{address_parts, name_bytes}
use Rattle.compile_laws.proofs.Fitting.{same_truth}
use Rattle.compile_laws.proofs.Plain.{has_ascending, had_ascending}
use Rattle.compile_laws.proofs.Supported.{IsEntry}

-- no domain begins with `~`
no_tilde : (rest : List ℕ) → is_domain (126 ∷ rest) ≡ true → ⊥
no_tilde rest h =
    ⊎_elim
    (λ address. let first = (address_parts (126 ∷ rest) address).first in absurd (omega (arith, first)))
    (λ name. true≢false (sym (name_bytes (126 ∷ rest) name)))
    (or_cases (is_address (126 ∷ rest)) (is_name (126 ∷ rest)) h)

same_written : (one other : DomainEntry) (first second : Bool) → one.excluded ≡ first → other.excluded ≡ second → is_domain one.domain ≡ true → is_domain other.domain ≡ true
    → written_entry one ≡ written_entry other → one ≡ other
same_written one other true true a b d e w =
    let texts : 126 ∷ one.domain ≡ 126 ∷ other.domain = sym (ap (λ x. cond x (126 ∷ one.domain) one.domain) a) ∙ w ∙ ap (λ x. cond x (126 ∷ other.domain) other.domain) b in
    let same : one.domain ≡ other.domain = cc in
    λ i. record { domain = same i; excluded = (a ∙ sym b) i }
same_written one other true false a b d e w =
    let texts : 126 ∷ one.domain ≡ other.domain = sym (ap (λ x. cond x (126 ∷ one.domain) one.domain) a) ∙ w ∙ ap (λ x. cond x (126 ∷ other.domain) other.domain) b in
    absurd (no_tilde one.domain (ap is_domain texts ∙ e))
same_written one other false true a b d e w =
    let texts : one.domain ≡ 126 ∷ other.domain = sym (ap (λ x. cond x (126 ∷ one.domain) one.domain) a) ∙ w ∙ ap (λ x. cond x (126 ∷ other.domain) other.domain) b in
    absurd (no_tilde other.domain (ap is_domain (sym texts) ∙ d))
same_written one other false false a b d e w =
    let texts : one.domain ≡ other.domain = sym (ap (λ x. cond x (126 ∷ one.domain) one.domain) a) ∙ w ∙ ap (λ x. cond x (126 ∷ other.domain) other.domain) b in
    λ i. record { domain = texts i; excluded = (a ∙ sym b) i }

-- each entry of the one list is in the other
among : (one other : List DomainEntry) → AllByRecursion IsEntry one → AllByRecursion IsEntry other → set_of_entries one ≡ set_of_entries other → (entry : DomainEntry) → In entry one → In entry other
among one other a b same entry i =
    let here = has_mapped (λ t. t ≡ written_entry entry) written_entry one (has_weaker (λ e. e ≡ entry) (λ e. written_entry e ≡ written_entry entry) (λ e is. ap written_entry is) one i) in
    let there = subst (λ (l : List (List ℕ)). Has (λ t. t ≡ written_entry entry) l) same (has_ascending (λ t. t ≡ written_entry entry) (map written_entry one) here) in
    let r = has_in (λ e. written_entry e ≡ written_entry entry) other (has_unmapped (λ t. t ≡ written_entry entry) written_entry other (had_ascending (λ t. t ≡ written_entry entry) (map written_entry other) there)) in
    let equal = same_written r.0 entry r.0.excluded entry.excluded refl refl (each_in IsEntry r.0 other r.1 b).domain (each_in IsEntry entry one i a).domain r.2 in
    subst (λ (e : DomainEntry). In e other) equal r.1

-- ---- what depends on the set alone

module _ (one other : List DomainEntry) (to : (entry : DomainEntry) → In entry one → In entry other) (back : (entry : DomainEntry) → In entry other → In entry one) where
  all_same : (test : DomainEntry → Bool) → list_all test one ≡ list_all test other
  all_same test =
      same_truth (list_all test one) (list_all test other)
      (λ h. all_pass test other (in_each (λ e. test e ≡ true) other (λ e i. each_in (λ x. test x ≡ true) e one (back e i) (each_passes test one h))))
      (λ h. all_pass test one (in_each (λ e. test e ≡ true) one (λ e i. each_in (λ x. test x ≡ true) e other (to e i) (each_passes test other h))))

  any_same : (test test' : DomainEntry → Bool) → ((e : DomainEntry) → test e ≡ test' e) → list_any test one ≡ list_any test' other
  any_same test test' same =
      same_truth (list_any test one) (list_any test' other)
      (λ h. let r = any_out test one h in any_in test' r.0 other (to r.0 r.1) (sym (same r.0) ∙ r.2))
      (λ h. let r = any_out test' other h in any_in test r.0 one (back r.0 r.1) (same r.0 ∙ r.2))

longest_same : (one other listed listed' : List DomainEntry) → lists_none one ≡ lists_none other → ((entry : DomainEntry) → In entry listed → In entry listed') → ((entry : DomainEntry) → In entry listed' → In entry listed)
    → longest_is_listed one listed ≡ longest_is_listed other listed'
longest_same one other [] [] none to back = none
longest_same one other [] (y ∷ ys) none to back = absurd (back y (inl refl))
longest_same one other (x ∷ xs) [] none to back = absurd (to x (inl refl))
longest_same one other (x ∷ xs) (y ∷ ys) none to back =
    any_same (x ∷ xs) (y ∷ ys) to back (λ e. not e.excluded && is_longest (x ∷ xs) e) (λ e. not e.excluded && is_longest (y ∷ ys) e)
    (λ e. ap (λ b. not e.excluded && b) (all_same (x ∷ xs) (y ∷ ys) to back (λ o. nat_le (length o.domain) (length e.domain))))

pub same_for : (one other : List DomainEntry) → AllByRecursion IsEntry one → AllByRecursion IsEntry other → set_of_entries one ≡ set_of_entries other → (initiator : Option (List ℕ)) → is_for one initiator ≡ is_for other initiator
same_for one other a b same initiator = by initiator
  where
    to : (entry : DomainEntry) → In entry one → In entry other
    to entry i = among one other a b same entry i

    back : (entry : DomainEntry) → In entry other → In entry one
    back entry i = among other one b a (sym same) entry i

    by : (initiator : Option (List ℕ)) → is_for one initiator ≡ is_for other initiator
    by None = all_same one other to back (λ e. e.excluded)
    by (Some host) =
        longest_same one other (covering one host) (covering other host) (all_same one other to back (λ e. e.excluded))
        (λ e i. let q = in_unfiltered (λ x. covers x.domain host) e one i in in_filtered (λ x. covers x.domain host) e other (to e q.0) q.1)
        (λ e i. let q = in_unfiltered (λ x. covers x.domain host) e other i in in_filtered (λ x. covers x.domain host) e one (back e q.0) q.1)
