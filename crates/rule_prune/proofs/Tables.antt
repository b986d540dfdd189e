-- Places of rules in tables by their texts.
use Rattle.std.proofs.Common.{◌≡◌, ℕ, ◌+◌, ◌<◌, suc, ◌⊎◌, inl, inr, List, [], ◌∷◌, ◌++◌, drop, length, bytes_eq, Bool, true, false, cond, ◌==◌, Option, Some, None, Vec, Global, refl, sym, ap, ◌∙◌, subst, ⊎_elim, arith}
use Rattle.std.specs.Prelude.{IfSome}
use Rattle.std.specs.List.{slice_get, after_first, position_or_len}
use Rattle.std.proofs.lemmas.Bool.{cases_Bool, cond-true, cond-false, or_left, eq-eqb, cases_lt}
use Rattle.std.proofs.lemmas.Slice.Eq.{bytes_eq-Decides}
use Rattle.rule_spec.specs.Rule.{Condition, Rule}
use Rattle.prune_spec.specs.Shadows.{has_no_filter, filter_domain}
use Rattle.rule_prune.specs.declared.filters.Filters.{Filters}
use Rattle.rule_prune.specs.Filters.{Table, listed, places_under, has_place, Adds, AddsGiven, IsListed, Takes, AreListedBelow, behind_dots}
use Rattle.rule_prune.proofs.Places.{has_front, has_back}

-- taken out, made longer, and put in again
pub put_again : (old mid new : List ℕ → Option (Vec ℕ Global)) (text : List ℕ) (places : Vec ℕ Global) (list : List ℕ) → ((q : List ℕ) → mid q ≡ cond (bytes_eq text q) None (old q))
    → ((q : List ℕ) → new q ≡ cond (bytes_eq text q) (Some places) (mid q)) → places.items ≡ list → (q : List ℕ) → listed (new q) ≡ cond (bytes_eq text q) list (listed (old q))
put_again old mid new text places list out in_again are q =
    ⊎_elim
    (λ (same : bytes_eq text q ≡ true). ap listed (in_again q ∙ cond-true (bytes_eq text q) (Some places) (mid q) same) ∙ are ∙ sym (cond-true (bytes_eq text q) list (listed (old q)) same))
    (λ (apart : bytes_eq text q ≡ false).
    ap listed (in_again q ∙ cond-false (bytes_eq text q) (Some places) (mid q) apart ∙ out q ∙ cond-false (bytes_eq text q) None (old q) apart)
    ∙ sym (cond-false (bytes_eq text q) list (listed (old q)) apart))
    (cases_Bool (bytes_eq text q))

-- ---- one rule more

added_stays : (old new : Table) (text : List ℕ) (place : ℕ) → Adds old new text place → (q : List ℕ) (other : ℕ) → has_place (places_under old q) other ≡ true → has_place (places_under new q) other ≡ true
added_stays old new text place adds q other h =
    ⊎_elim
    (λ same.
    ap (λ l. has_place l other) (adds q ∙ cond-true (bytes_eq text q) (places_under old text ++ place ∷ []) (places_under old q) same)
    ∙ has_front (places_under old text) (place ∷ []) other (ap (λ t. has_place (places_under old t) other) ((bytes_eq-Decides text q).0 same) ∙ h))
    (λ apart. ap (λ l. has_place l other) (adds q ∙ cond-false (bytes_eq text q) (places_under old text ++ place ∷ []) (places_under old q) apart) ∙ h)
    (cases_Bool (bytes_eq text q))

pub stays : (old new : Table) (key : Option (List ℕ)) (place : ℕ) → AddsGiven old new key place → (q : List ℕ) (other : ℕ) → has_place (places_under old q) other ≡ true → has_place (places_under new q) other ≡ true
stays old new None place adds q other h = ap (λ l. has_place l other) (adds q) ∙ h
stays old new (Some text) place adds q other h = added_stays old new text place adds q other h

pub stands : (old new : Table) (key : Option (List ℕ)) (place : ℕ) → AddsGiven old new key place → IfSome key (λ text. has_place (places_under new text) place ≡ true)
stands old new None place adds = tt
stands old new (Some text) place adds =
    ap (λ l. has_place l place) (adds text ∙ cond-true (bytes_eq text text) (places_under old text ++ place ∷ []) (places_under old text) ((bytes_eq-Decides text text).1 refl))
    ∙ has_back (places_under old text) (place ∷ []) place (or_left (place == place) false (eq-eqb place place refl))

still : (old new : Table) → ((q : List ℕ) (other : ℕ) → has_place (places_under old q) other ≡ true → has_place (places_under new q) other ≡ true)
    → (key : Option (List ℕ)) (other : ℕ) → IfSome key (λ text. has_place (places_under old text) other ≡ true) → IfSome key (λ text. has_place (places_under new text) other ≡ true)
still old new more None other h = h
still old new more (Some text) other h = more text other h

other_stays : (b : Bool) (list : List ℕ) (place other : ℕ) → has_place list other ≡ true → has_place (cond b (list ++ place ∷ []) list) other ≡ true
other_stays true list place other h = has_front list (place ∷ []) other h
other_stays false list place other h = h

pub takes_in : (old new : Filters) (place : ℕ) (c : Condition) → new.digests.items ≡ old.digests.items → new.others.items ≡ cond (has_no_filter c) (old.others.items ++ place ∷ []) old.others.items
    → AddsGiven old.patterns new.patterns c.url_filter place → AddsGiven old.domains new.domains (filter_domain c) place → AddsGiven old.expressions new.expressions c.regex_filter place → Takes old new place c
takes_in old new place c digests others patterns domains expressions = record {
  digests = digests;
  here = record {
    other = λ none.
        ap (λ l. has_place l place) (others ∙ cond-true (has_no_filter c) (old.others.items ++ place ∷ []) old.others.items none)
        ∙ has_back old.others.items (place ∷ []) place (or_left (place == place) false (eq-eqb place place refl));
    pattern = stands old.patterns new.patterns c.url_filter place patterns;
    domain = stands old.domains new.domains (filter_domain c) place domains;
    expression = stands old.expressions new.expressions c.regex_filter place expressions;
  };
  others = λ other its h. record {
    other = λ none. ap (λ l. has_place l other) others ∙ other_stays (has_no_filter c) old.others.items place other (h.other none);
    pattern = still old.patterns new.patterns (stays old.patterns new.patterns c.url_filter place patterns) its.url_filter other h.pattern;
    domain = still old.domains new.domains (stays old.domains new.domains (filter_domain c) place domains) (filter_domain its) other h.domain;
    expression = still old.expressions new.expressions (stays old.expressions new.expressions c.regex_filter place expressions) its.regex_filter other h.expression;
  };
}

some_is : (x y : Rule) → Some x ≡ Some y → x ≡ y
some_is x y h = cc

split_suc : (m n : ℕ) → m < n + 1 → (m < n) ⊎ (m ≡ n)
split_suc m n h = ⊎_elim (λ less. inl less) (λ more. inr (omega arith)) (cases_lt m n)

pub listed_more : (old new : Filters) (rules : List Rule) (place : ℕ) (rule : Rule) → slice_get rules place ≡ Some rule → Takes old new place rule.condition → AreListedBelow old rules place → AreListedBelow new rules (place + 1)
listed_more old new rules place rule at takes below other one less it =
    ⊎_elim
    (λ before. takes.others other one.condition (below other one before it))
    (λ same.
    let this : rule ≡ one = some_is rule one (sym at ∙ ap (slice_get rules) (sym same) ∙ it) in
    subst (λ p. IsListed new p one.condition) (sym same) (subst (λ (r : Rule). IsListed new place r.condition) this takes.here))
    (split_suc other place less)

-- ---- dot by dot

pub behind_found : (table : Table) (text : List ℕ) → position_or_len (λ b. b == 46) text < length text
    → behind_dots table text ≡ places_under table (after_first (λ b. b == 46) text) ++ behind_dots table (after_first (λ b. b == 46) text)
behind_found table [] h = absurd (omega arith)
behind_found table (b ∷ rest) h =
    ⊎_elim
    (λ dot. rw dot refl)
    (λ other.
    let one : position_or_len (λ b. b == 46) (b ∷ rest) ≡ 1 + position_or_len (λ b. b == 46) rest = rw other refl in
    let next : position_or_len (λ b. b == 46) (b ∷ rest) + 1 ≡ suc (position_or_len (λ b. b == 46) rest + 1) = omega (arith, one) in
    let after : after_first (λ b. b == 46) (b ∷ rest) ≡ after_first (λ b. b == 46) rest = ap (λ n. drop n (b ∷ rest)) next in
    ap (λ t. cond t (places_under table rest ++ behind_dots table rest) (behind_dots table rest)) other ∙ behind_found table rest (omega (arith, one, h))
    ∙ sym (ap (λ r. places_under table r ++ behind_dots table r) after))
    (cases_Bool (b == 46))

pub behind_none : (table : Table) (text : List ℕ) → position_or_len (λ b. b == 46) text ≡ length text → behind_dots table text ≡ []
behind_none table [] e = refl
behind_none table (b ∷ rest) e =
    ⊎_elim
    (λ dot.
    let none : position_or_len (λ b. b == 46) (b ∷ rest) ≡ 0 = rw dot refl in
    absurd (omega (arith, none, e)))
    (λ other.
    let one : position_or_len (λ b. b == 46) (b ∷ rest) ≡ 1 + position_or_len (λ b. b == 46) rest = rw other refl in
    ap (λ t. cond t (places_under table rest ++ behind_dots table rest) (behind_dots table rest)) other ∙ behind_none table rest (omega (arith, one, e)))
    (cases_Bool (b == 46))
