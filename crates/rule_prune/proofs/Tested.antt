-- A rule that makes another needless tests no response headers, or has the digest of the other.
use Rattle.std.proofs.Common.{◌≡◌, ℕ, List, Bool, true, false, cond, Option, Some, None, refl, sym, ap, ◌∙◌, ⊎_elim}
use Rattle.std.specs.Prelude.{unwrap_or, option_map}
use Rattle.std.specs.List.{slice_get}
use Rattle.std.specs.Option.{option_eq}
use Rattle.std.specs.Cmp.Lexicographic.{pointwise}
use Rattle.std.proofs.lemmas.Bool.{and_parts, or_cases, true≢false, eq-eqb}
use Rattle.std.proofs.lemmas.Option.{slice_get-map}
use Rattle.rule_spec.specs.Rule.{Condition, Rule}
use Rattle.prune_spec.specs.Shadows.{same_test, has_no_tests, tests_no_others, shadows}
use Rattle.prune_laws.proofs.Wider.{asked_less, lists_equal, options_are, same_test_is}
use Rattle.prune_laws.proofs.Shadowed.{shadowing}
use Rattle.rule_prune.specs.Digests.{tests_mixed, given_tests_mixed, digest_of, digests_of, may_be_same}
use Rattle.rule_prune.specs.Filters.{one_outdoes}

maybe_itself : (digest : Option ℕ) → may_be_same digest digest ≡ true
maybe_itself None = refl
maybe_itself (Some n) = eq-eqb n n refl

none_given : (b : Bool) (digest : ℕ) (s : Option ℕ) → b ≡ true → may_be_same (cond b None (Some digest)) s ≡ true
none_given b digest s h = ap (λ c. may_be_same (cond c None (Some digest)) s) h

same_digests : (k s : Condition) → tests_no_others k s ≡ true → may_be_same (digest_of k) (digest_of s) ≡ true
same_digests k s h =
    ⊎_elim
    (λ none. none_given (has_no_tests k.header_tests k.not_header_tests) (tests_mixed (given_tests_mixed 2166136261 k.header_tests) k.not_header_tests) (digest_of s) none)
    (λ same.
    let p = and_parts (option_eq (pointwise same_test) k.header_tests s.header_tests) (pointwise same_test k.not_header_tests s.not_header_tests) same in
    let tests = options_are (pointwise same_test) (lists_equal same_test same_test_is) k.header_tests s.header_tests p.0 in
    let others = lists_equal same_test same_test_is k.not_header_tests s.not_header_tests p.1 in
    let one : digest_of k ≡ digest_of s =
    λ i. cond (has_no_tests (tests i) (others i)) None (Some (tests_mixed (given_tests_mixed 2166136261 (tests i)) (others i))) in
    ap (may_be_same (digest_of k)) (sym one) ∙ maybe_itself (digest_of k))
    (or_cases (has_no_tests k.header_tests k.not_header_tests) _ h)

-- by the digests of a list

abbrev known : Option Rule → Option ℕ
known rule = unwrap_or (option_map (λ (r : Rule). digest_of r.condition) rule) None

pub may_outdo : (rules : List Rule) (digests : List (Option ℕ)) → digests ≡ digests_of rules → (i j : ℕ) → one_outdoes rules (slice_get rules i) (slice_get rules j) ≡ true
    → may_be_same (unwrap_or (slice_get digests i) None) (unwrap_or (slice_get digests j) None) ≡ true
may_outdo rules digests are i j h =
    ap (λ (l : List (Option ℕ)). may_be_same (unwrap_or (slice_get l i) None) (unwrap_or (slice_get l j) None)) are
    ∙ (λ n. may_be_same (unwrap_or (slice_get-map (λ (r : Rule). digest_of r.condition) rules i n) None) (unwrap_or (slice_get-map (λ (r : Rule). digest_of r.condition) rules j n) None))
    ∙ by (slice_get rules i) (slice_get rules j) h
  where
    by : (k s : Option Rule) → one_outdoes rules k s ≡ true → may_be_same (known k) (known s) ≡ true
    by None s t = refl
    by (Some k) None t = absurd (true≢false (sym t))
    by (Some k) (Some s) t =
        let shadow = (and_parts (shadows k s) _ t).0 in
        same_digests k.condition s.condition (asked_less k.condition s.condition (shadowing k s shadow).less).tests

-- what may not be is not
pub never_outdone : (may does : Bool) → (does ≡ true → may ≡ true) → may ≡ false → false ≡ does
never_outdone may true h never = sym never ∙ h refl
never_outdone may false h never = refl
