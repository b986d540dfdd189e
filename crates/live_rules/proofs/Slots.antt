-- Places of rules, some of which are gone.
use Rattle.std.proofs.Common.{◌≡◌, ℕ, zero, suc, ◌+◌, ◌-◌, ◌<◌, ◌≤◌, Bool, true, false, cond, not, ◌||◌, List, [], ◌∷◌, ◌++◌, length, Option, Some, None, refl, sym, ap, ◌∙◌, arith, ne_eqb, append_assoc, append-nil}
use Rattle.std.proofs.lemmas.Bool.{eqb-false}
use Rattle.std.specs.Prelude.{◌==◌, count_by, slice_get, slice_index_or, slice_set}
use Rattle.std.proofs.lemmas.List.Sums.{sum_by-append}
use Rattle.std.proofs.lemmas.List.Folds.{list_any-append}
use Rattle.rule_spec.specs.Rule.{Rule, is_unsafe}
use Rattle.rule_spec.specs.State.{has_number}
use Rattle.update_spec.specs.Judge.{uses_regex, count_unsafe}
use Rattle.update_spec.specs.Update.{without_ids}
use Rattle.rule_ids.specs.Counted.{counts_of, less, sum_of}
use Rattle.live_rules.specs.Slots.{listed, there, is_of, cleared_one, gone_one, cleared, gone}

-- ---- at a place, and past all

pub cleared_at : (id place : ℕ) (slots : List (Option Rule)) (d : Option Rule) → place < length slots → cleared id place slots ≡ slice_set slots place (cleared_one id (slice_index_or slots place d))
cleared_at id place [] d less = absurd (omega (arith, less))
cleared_at id zero (slot ∷ slots) d less = refl
cleared_at id (suc place) (slot ∷ slots) d less = ap (λ (rest : List (Option Rule)). slot ∷ rest) (cleared_at id place slots d (omega (arith, less)))

pub gone_at : (id place : ℕ) (slots : List (Option Rule)) (d : Option Rule) → place < length slots → gone id place slots ≡ gone_one id (slice_index_or slots place d)
gone_at id place [] d less = absurd (omega (arith, less))
gone_at id zero (slot ∷ slots) d less = refl
gone_at id (suc place) (slot ∷ slots) d less = gone_at id place slots d (omega (arith, less))

pub cleared_past : (id place : ℕ) (slots : List (Option Rule)) → length slots ≤ place → cleared id place slots ≡ slots
cleared_past id place [] past = refl
cleared_past id zero (slot ∷ slots) past = absurd (omega (arith, past))
cleared_past id (suc place) (slot ∷ slots) past = ap (λ (rest : List (Option Rule)). slot ∷ rest) (cleared_past id place slots (omega (arith, past)))

pub gone_past : (id place : ℕ) (slots : List (Option Rule)) → length slots ≤ place → gone id place slots ≡ []
gone_past id place [] past = refl
gone_past id zero (slot ∷ slots) past = absurd (omega (arith, past))
gone_past id (suc place) (slot ∷ slots) past = gone_past id place slots (omega (arith, past))

pub there_both : (xs ys : List (Option Rule)) → there (xs ++ ys) ≡ there xs ++ there ys
there_both [] ys = refl
there_both (x ∷ xs) ys = ap (λ (rest : List Rule). listed x ++ rest) (there_both xs ys) ∙ sym (append_assoc (listed x) (there xs) (there ys))

pub there_push : (slots : List (Option Rule)) (slot : Option Rule) → there (slots ++ slot ∷ []) ≡ there slots ++ listed slot
there_push slots slot = there_both slots (slot ∷ []) ∙ ap (λ (rest : List Rule). there slots ++ rest) (append-nil (listed slot))

pub length_cleared : (id place : ℕ) (slots : List (Option Rule)) → length (cleared id place slots) ≡ length slots
length_cleared id place [] = refl
length_cleared id zero (slot ∷ slots) = refl
length_cleared id (suc place) (slot ∷ slots) = ap suc (length_cleared id place slots)

-- ---- what is counted

module _ (count : List Rule → ℕ) (none : count [] ≡ 0) (both : (xs ys : List Rule) → count (xs ++ ys) ≡ count xs + count ys) where
  count_one : (id : ℕ) (slot : Option Rule) (b : Bool) (rest : List Rule)
      → count (listed (cond b None slot) ++ rest) + count (cond b (listed slot) []) ≡ count (listed slot ++ rest)
  count_one id slot true rest = omega (arith, both (listed slot) rest)
  count_one id slot false rest = omega (arith, none)

  count_cleared : (id place : ℕ) (slots : List (Option Rule)) → count (there (cleared id place slots)) + count (gone id place slots) ≡ count (there slots)
  count_cleared id place [] = omega (arith, none)
  count_cleared id zero (slot ∷ slots) = count_one id slot (is_of id slot) (there slots)
  count_cleared id (suc place) (slot ∷ slots) =
      omega (arith, both (listed slot) (there (cleared id place slots)), both (listed slot) (there slots), count_cleared id place slots)

length_both : (xs ys : List Rule) → length (xs ++ ys) ≡ length xs + length ys
length_both [] ys = omega arith
length_both (x ∷ xs) ys = omega (arith, length_both xs ys)

pub counts_cleared : (id place : ℕ) (slots : List (Option Rule)) → less (counts_of (there slots)) (counts_of (gone id place slots)) ≡ counts_of (there (cleared id place slots))
counts_cleared id place slots =
    let rules = count_cleared length refl length_both id place slots in
    let patterns = count_cleared (count_by uses_regex) refl (sum_by-append (λ (rule : Rule). cond (uses_regex rule) 1 0)) id place slots in
    let unsafe_rules = count_cleared count_unsafe refl (sum_by-append (λ (rule : Rule). cond (is_unsafe rule.action) 1 0)) id place slots in
    let a : length (there slots) - length (gone id place slots) ≡ length (there (cleared id place slots)) = omega (arith, rules) in
    let b : count_by uses_regex (there slots) - count_by uses_regex (gone id place slots) ≡ count_by uses_regex (there (cleared id place slots)) = omega (arith, patterns) in
    let c : count_unsafe (there slots) - count_unsafe (gone id place slots) ≡ count_unsafe (there (cleared id place slots)) = omega (arith, unsafe_rules) in
    λ i. record { rules = a i; patterns = b i; unsafe_rules = c i }

pub counts_push : (rules added : List Rule) → sum_of (counts_of rules) (counts_of added) ≡ counts_of (rules ++ added)
counts_push rules added =
    let a = sym (length_both rules added) in
    let b = sym (sum_by-append (λ (rule : Rule). cond (uses_regex rule) 1 0) rules added) in
    let c = sym (sum_by-append (λ (rule : Rule). cond (is_unsafe rule.action) 1 0) rules added) in
    λ i. record { rules = a i; patterns = b i; unsafe_rules = c i }

-- ---- the rules without those of an id

other_stays : (id : ℕ) (rule : Rule) (rest kept : List Rule) → (rule.id ≡ id → ⊥) → kept ≡ without_ids (id ∷ []) rest → rule ∷ kept ≡ without_ids (id ∷ []) (rule ∷ rest)
other_stays id rule rest kept other same =
    ap (λ (rules : List Rule). rule ∷ rules) same
    ∙ sym (ap (λ (b : Bool). cond (not (b || false)) (rule ∷ without_ids (id ∷ []) rest) (without_ids (id ∷ []) rest)) (ne_eqb rule.id id other))

this_goes : (id : ℕ) (rule : Rule) (rest : List Rule) → (rule.id == id) ≡ true → without_ids (id ∷ []) rest ≡ without_ids (id ∷ []) (rule ∷ rest)
this_goes id rule rest is =
    sym (ap (λ (b : Bool). cond (not (b || false)) (rule ∷ without_ids (id ∷ []) rest) (without_ids (id ∷ []) rest)) is)

-- none of them is of the id
pub none_goes : (id : ℕ) (slots : List (Option Rule)) → ((place : ℕ) (rule : Rule) → slice_get slots place ≡ Some (Some rule) → rule.id ≡ id → ⊥)
    → there slots ≡ without_ids (id ∷ []) (there slots)
none_goes id [] others = refl
none_goes id (None ∷ slots) others = none_goes id slots (λ place. others (suc place))
none_goes id (Some rule ∷ slots) others = other_stays id rule (there slots) (there slots) (others 0 rule refl) (none_goes id slots (λ place. others (suc place)))

-- the first may be of the id
first_goes : (id : ℕ) (rule : Rule) (slots : List (Option Rule)) (b : Bool) → (rule.id == id) ≡ b → there slots ≡ without_ids (id ∷ []) (there slots)
    → listed (cond b None (Some rule)) ++ there slots ≡ without_ids (id ∷ []) (rule ∷ there slots)
first_goes id rule slots true is rest = rest ∙ this_goes id rule (there slots) is
first_goes id rule slots false is rest = other_stays id rule (there slots) (there slots) (eqb-false rule.id id is) rest

-- one alone may be of the id, which stands at this place
pub one_goes : (id place : ℕ) (slots : List (Option Rule)) → ((at : ℕ) (rule : Rule) → slice_get slots at ≡ Some (Some rule) → rule.id ≡ id → at ≡ place)
    → there (cleared id place slots) ≡ without_ids (id ∷ []) (there slots)
one_goes id place [] only = refl
one_goes id zero (None ∷ slots) only = none_goes id slots (λ at rule is same. absurd (omega (arith, only (suc at) rule is same)))
one_goes id zero (Some rule ∷ slots) only =
    first_goes id rule slots (rule.id == id) refl (none_goes id slots (λ at other is same. absurd (omega (arith, only (suc at) other is same))))
one_goes id (suc place) (None ∷ slots) only = one_goes id place slots (λ at rule is same. omega (arith, only (suc at) rule is same))
one_goes id (suc place) (Some rule ∷ slots) only =
    other_stays id rule (there slots) (there (cleared id place slots)) (λ same. absurd (omega (arith, only 0 rule refl same)))
    (one_goes id place slots (λ at other is same. omega (arith, only (suc at) other is same)))

-- ---- what stands where

first_was : (id : ℕ) (slot : Option Rule) (rule : Rule) → Some (cleared_one id slot) ≡ Some (Some rule) → Some slot ≡ Some (Some rule)
first_was id None rule is = is
first_was id (Some one) rule is = by (one.id == id) is
  where
    by : (b : Bool) → Some (cond b None (Some one)) ≡ Some (Some rule) → Some (Some one) ≡ Some (Some rule)
    by true e = absurd (cc e)
    by false e = e

pub stood : (id place : ℕ) (slots : List (Option Rule)) (at : ℕ) (rule : Rule) → slice_get (cleared id place slots) at ≡ Some (Some rule) → slice_get slots at ≡ Some (Some rule)
stood id place [] at rule is = is
stood id zero (slot ∷ slots) zero rule is = first_was id slot rule is
stood id zero (slot ∷ slots) (suc at) rule is = is
stood id (suc place) (slot ∷ slots) zero rule is = is
stood id (suc place) (slot ∷ slots) (suc at) rule is = stood id place slots at rule is

first_not : (id : ℕ) (slot : Option Rule) (rule : Rule) → Some (cleared_one id slot) ≡ Some (Some rule) → rule.id ≡ id → ⊥
first_not id None rule is same = absurd (cc is)
first_not id (Some one) rule is same = by (one.id == id) refl is
  where
    by : (b : Bool) → (one.id == id) ≡ b → Some (cond b None (Some one)) ≡ Some (Some rule) → ⊥
    by true e is = absurd (cc is)
    by false e is =
        let one_is : one ≡ rule = cc is in
        eqb-false one.id id e (ap (λ (r : Rule). r.id) one_is ∙ same)

pub not_there : (id place : ℕ) (slots : List (Option Rule)) (rule : Rule) → slice_get (cleared id place slots) place ≡ Some (Some rule) → rule.id ≡ id → ⊥
not_there id place [] rule is same = absurd (cc is)
not_there id zero (slot ∷ slots) rule is same = first_not id slot rule is same
not_there id (suc place) (slot ∷ slots) rule is same = not_there id place slots rule is same

-- ---- several ids

push_case : (id : ℕ) (rule : Rule) (rest kept : List Rule) (a : Bool) → kept ≡ without_ids (id ∷ []) rest
    → cond (not (a || has_number (id ∷ []) rule.id)) (rule ∷ kept) kept ≡ without_ids (id ∷ []) (cond (not a) (rule ∷ rest) rest)
push_case id rule rest kept true same = same
push_case id rule rest kept false same = ap (λ (rules : List Rule). cond (not (has_number (id ∷ []) rule.id)) (rule ∷ rules) rules) same

pub without_push : (ids : List ℕ) (id : ℕ) (rules : List Rule) → without_ids (ids ++ id ∷ []) rules ≡ without_ids (id ∷ []) (without_ids ids rules)
without_push ids id [] = refl
without_push ids id (rule ∷ rules) =
    ap (λ (b : Bool). cond (not b) (rule ∷ without_ids (ids ++ id ∷ []) rules) (without_ids (ids ++ id ∷ []) rules)) (list_any-append (λ other. rule.id == other) ids (id ∷ []))
    ∙ push_case id rule (without_ids ids rules) (without_ids (ids ++ id ∷ []) rules) (has_number ids rule.id) (without_push ids id rules)

pub without_none : (rules : List Rule) → without_ids [] rules ≡ rules
without_none [] = refl
without_none (rule ∷ rules) = ap (λ (rest : List Rule). rule ∷ rest) (without_none rules)
