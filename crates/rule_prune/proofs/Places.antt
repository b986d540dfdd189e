-- Which places are looked at for a rule: all of those whose rules may make it needless.
use Rattle.std.proofs.Common.{◌≡◌, ℕ, List, [], ◌∷◌, ◌++◌, bytes_eq, Bool, true, false, cond, not, ◌&&◌, ◌||◌, ◌==◌, Option, Some, None, refl, sym, ap, ◌∙◌, subst, ⊎_elim}
use Rattle.std.specs.Prelude.{nat_eq, IfSome, unwrap_or}
use Rattle.std.specs.List.{slice_get, ends_with}
use Rattle.std.proofs.lemmas.Bool.{and_parts, or_cases, or_left, or_right, true≢false, cases_Bool}
use Rattle.std.proofs.lemmas.Slice.Eq.{bytes_eq-Decides}
use Rattle.domain_set.specs.Rests.{some_rest}
use Rattle.domain_set.proofs.Ends.{ends_with-dot}
use Rattle.rule_spec.specs.Rule.{Condition, Rule}
use Rattle.prune_spec.specs.Shadows.{same_text, has_no_filter, has_same_url_filter, has_wider_domain, has_same_regex_filter, has_weaker_filter, filter_domain, lies_under, shadows}
use Rattle.prune_spec.specs.Pruned.{outdoes, stands_earlier}
use Rattle.prune_laws.proofs.Wider.{asked_less}
use Rattle.prune_laws.proofs.Shadowed.{shadowing}
use Rattle.rule_prune.specs.declared.filters.Filters.{Filters}
use Rattle.rule_prune.specs.Filters.{Table, places_under, has_place, IsListed, AreListed, under_given, behind_dots, under_domain, candidates, one_outdoes, keeps}

-- ---- places in lists

or_grouped : (a b c : Bool) → (a || (b || c)) ≡ ((a || b) || c)
or_grouped true b c = refl
or_grouped false b c = refl

pub has_either : (xs ys : List ℕ) (place : ℕ) → has_place (xs ++ ys) place ≡ (has_place xs place || has_place ys place)
has_either [] ys place = refl
has_either (x ∷ xs) ys place =
    ap (λ b. (x == place) || b) (has_either xs ys place) ∙ or_grouped (x == place) (has_place xs place) (has_place ys place)

pub has_front : (xs ys : List ℕ) (place : ℕ) → has_place xs place ≡ true → has_place (xs ++ ys) place ≡ true
has_front xs ys place h = has_either xs ys place ∙ or_left (has_place xs place) (has_place ys place) h

pub has_back : (xs ys : List ℕ) (place : ℕ) → has_place ys place ≡ true → has_place (xs ++ ys) place ≡ true
has_back xs ys place h = has_either xs ys place ∙ or_right (has_place xs place) (has_place ys place) h

-- ---- by filters

module _ (table : Table) (place : ℕ) where
  abbrev Stands : List ℕ → Type 0
  Stands text = has_place (places_under table text) place ≡ true

  same_there : (k s : Option (List ℕ)) → same_text k s ≡ true → IfSome k Stands → has_place (under_given table s) place ≡ true
  same_there None s h there = absurd (true≢false (sym h))
  same_there (Some text) None h there = absurd (true≢false (sym h))
  same_there (Some text) (Some other) h there = subst Stands ((bytes_eq-Decides text other).0 h) there

  rest_there : (domain under : List ℕ) → some_rest (bytes_eq domain) under ≡ true → Stands domain → has_place (behind_dots table under) place ≡ true
  rest_there domain [] h there = absurd (true≢false (sym h))
  rest_there domain (b ∷ rest) h there =
      ⊎_elim
      (λ here.
      let both = and_parts (b == 46) (bytes_eq domain rest) here in
      ap (λ d. has_place (cond d (places_under table rest ++ behind_dots table rest) (behind_dots table rest)) place) both.0
      ∙ has_front (places_under table rest) (behind_dots table rest) place (subst Stands ((bytes_eq-Decides domain rest).0 both.1) there))
      (λ later.
      let found = rest_there domain rest later there in
      ⊎_elim
      (λ dot.
      ap (λ d. has_place (cond d (places_under table rest ++ behind_dots table rest) (behind_dots table rest)) place) dot
      ∙ has_back (places_under table rest) (behind_dots table rest) place found)
      (λ none. ap (λ d. has_place (cond d (places_under table rest ++ behind_dots table rest) (behind_dots table rest)) place) none ∙ found)
      (cases_Bool (b == 46)))
      (or_cases (b == 46 && bytes_eq domain rest) (some_rest (bytes_eq domain) rest) h)

  wider_there : (k s : Option (List ℕ)) → lies_under k s ≡ true → IfSome k Stands → has_place (under_domain table s) place ≡ true
  wider_there None s h there = absurd (true≢false (sym h))
  wider_there (Some domain) None h there = absurd (true≢false (sym h))
  wider_there (Some domain) (Some under) h there =
      ⊎_elim
      (λ same. has_front (places_under table under) (behind_dots table under) place (subst Stands ((bytes_eq-Decides domain under).0 same) there))
      (λ ends. has_back (places_under table under) (behind_dots table under) place (rest_there domain under (sym (ends_with-dot domain under) ∙ ends) there))
      (or_cases (bytes_eq domain under) (ends_with nat_eq under (46 ∷ domain)) h)

-- ---- of a rule that makes another needless

-- its filter is weaker
is_weaker : (k s : Rule) → shadows k s ≡ true → has_weaker_filter k.condition s.condition ≡ true
is_weaker k s h = (asked_less k.condition s.condition (shadowing k s h).less).filter

module _ (filters : Filters) (place : ℕ) (k s : Condition) (here : IsListed filters place k) where
  abbrev others : List ℕ
  others = filters.others.items

  abbrev patterns : List ℕ
  patterns = under_given filters.patterns s.url_filter

  abbrev domains : List ℕ
  domains = under_domain filters.domains (filter_domain s)

  abbrev expressions : List ℕ
  expressions = under_given filters.expressions s.regex_filter

  pub is_candidate : has_weaker_filter k s ≡ true → has_place (candidates filters s) place ≡ true
  is_candidate h =
      ⊎_elim
      (λ three.
      has_front (others ++ patterns ++ domains) expressions place
      (⊎_elim
      (λ two.
      has_front (others ++ patterns) domains place
      (⊎_elim
      (λ none. has_front others patterns place (here.other none))
      (λ same. has_back others patterns place (same_there filters.patterns place k.url_filter s.url_filter (and_parts (same_text k.url_filter s.url_filter) _ same).0 here.pattern))
      (or_cases (has_no_filter k) (has_same_url_filter k s) two)))
      (λ wider. has_back (others ++ patterns) domains place (wider_there filters.domains place (filter_domain k) (filter_domain s) wider here.domain))
      (or_cases (has_no_filter k || has_same_url_filter k s) (has_wider_domain k s) three)))
      (λ same.
      has_back (others ++ patterns ++ domains) expressions place
      (same_there filters.expressions place k.regex_filter s.regex_filter (and_parts (same_text k.regex_filter s.regex_filter) _ same).0 here.expression))
      (or_cases (has_no_filter k || has_same_url_filter k s || has_wider_domain k s) (has_same_regex_filter k s) h)

-- the place of a rule that outdoes that at a place is looked at
pub complete : (rules : List Rule) (filters : Filters) → AreListed filters rules → (gone : List Bool) (place : ℕ) (s : Rule) → slice_get rules place ≡ Some s
    → (other : ℕ) → keeps rules gone place other ≡ true → has_place (candidates filters s.condition) other ≡ true
complete rules filters listed gone place s at other h =
    by (slice_get rules other) refl
    (sym (ap (one_outdoes rules (slice_get rules other)) at) ∙ (and_parts (not (unwrap_or (slice_get gone other) false)) (one_outdoes rules (slice_get rules other) (slice_get rules place)) h).1)
  where
    by : (o : Option Rule) → slice_get rules other ≡ o → one_outdoes rules (slice_get rules other) (Some s) ≡ true → has_place (candidates filters s.condition) other ≡ true
    by None e t = absurd (true≢false (sym t ∙ ap (λ (p : Option Rule). one_outdoes rules p (Some s)) e))
    by (Some k) e t =
        let out : outdoes rules k s ≡ true = sym (ap (λ (p : Option Rule). one_outdoes rules p (Some s)) e) ∙ t in
        let shadow = (and_parts (shadows k s) (not (shadows s k) || stands_earlier rules k s) out).0 in
        is_candidate filters other k.condition s.condition (listed.places other k e) (is_weaker k s shadow)
