-- Where a byte of the pattern's first piece does not stand, the pattern does not fit.
use Rattle.std.proofs.Common.{◌≡◌, ◌≢◌, ◌<◌, ◌≤◌, ◌+◌, ◌-◌, ℕ, zero, suc, List, [], ◌∷◌, length, drop, get_or, Bool, true, false, ◌||◌, ◌==◌, refl, sym, ap, ◌∙◌, subst, ⊎_elim, arith, ne_eqb}
use Rattle.std.specs.Prelude.{IsTrue, not}
use Rattle.std.proofs.lemmas.Bool.{cases_Bool, cond-false, and_parts, true≢false}
use Rattle.std.proofs.lemmas.List.{get_or-drop, length-drop}
use Rattle.dnr_spec.specs.UrlFilter.{fits_at, some_end, is_separator, is_same}
use Rattle.url_filter.specs.Sought.{IsSought, NeverFits, Stands}
use Rattle.url_filter.specs.Stops.{HasNoStar, takes}
use Rattle.url_filter.proofs.Pieces.{next_fits, next_fits_end, one_more}

-- ---- ends that fail the test

step_on : (q : List ℕ → Bool) (u later : List ℕ) (x : ℕ) → u ≡ x ∷ later → q u ≡ false → some_end q u ≡ some_end q later
step_on q u later x e fails = ap (some_end q) e ∙ ap (λ b. b || some_end q later) (sym (ap q e) ∙ fails)

pub skip_to : (q : List ℕ → Bool) (text : List ℕ) (n : ℕ) → n ≤ length text → ((k : ℕ) → k < n → q (drop k text) ≡ false) → some_end q text ≡ some_end q (drop n text)
skip_to q text zero within fails = refl
skip_to q [] (suc n) within fails = absurd (omega arith)
skip_to q (y ∷ v) (suc n) within fails = step_on q (y ∷ v) v y refl (fails zero (omega arith)) ∙ skip_to q v n (omega arith) (λ k less. fails (suc k) (omega arith))

-- ---- the byte that is sought

stands_at_once : (ends fold : Bool) (c x : ℕ) (p v : List ℕ) → c ≢ 42 → c ≢ 94 → fits_at ends fold (c ∷ p) (x ∷ v) ≡ true → is_same fold x c ≡ true
stands_at_once ends fold c x p v other literal h =
    sym (cond-false (c == 94) (is_separator x) (is_same fold x c) (ne_eqb c 94 literal))
    ∙ (and_parts (takes fold c x) _ (sym (one_more ends fold c x p v other) ∙ h)).0

fails_at_end : (ends fold : Bool) (c : ℕ) (p : List ℕ) → c ≢ 42 → c ≢ 94 → fits_at ends fold (c ∷ p) [] ≡ false
fails_at_end ends fold c p other literal =
    cond-false (c == 42) (fits_at ends fold p []) _ (ne_eqb c 42 other) ∙ cond-false (c == 94) (fits_at ends fold p []) false (ne_eqb c 94 literal)

stands : (ends fold : Bool) (o : ℕ) (p u : List ℕ) → o < length p → HasNoStar p (suc o) → get_or p o 0 ≢ 94 → fits_at ends fold p u ≡ true → (o < length u) × Stands fold (get_or p o 0) u o
stands ends fold o [] u within plain literal h = absurd (omega arith)
stands ends fold zero (c ∷ p) [] within plain literal h = absurd (true≢false (sym h ∙ fails_at_end ends fold c p (plain zero (omega arith)) literal))
stands ends fold zero (c ∷ p) (x ∷ v) within plain literal h = (omega arith, stands_at_once ends fold c x p v (plain zero (omega arith)) literal h)
stands ends fold (suc o) (c ∷ p) [] within plain literal h =
    let past : o < 0 = (stands ends fold o p [] (omega arith) (λ k less. plain (suc k) (omega arith)) literal (next_fits_end ends fold c p (plain zero (omega arith)) h)).0 in
    absurd (omega arith)
stands ends fold (suc o) (c ∷ p) (x ∷ v) within plain literal h =
    let found = stands ends fold o p v (omega arith) (λ k less. plain (suc k) (omega arith)) literal (next_fits ends fold c x p v (plain zero (omega arith)) h) in
    let less : o < length v = found.0 in
    (omega arith, found.1)

pub fails_here : (fold : Bool) (p text : List ℕ) (o : ℕ) → IsSought p o → (o < length text → ¬ Stands fold (get_or p o 0) text o) → NeverFits fold p text
fails_here fold p text o sought absent ends =
    ⊎_elim
    (λ yes.
    let found = stands ends fold o p text sought.within (λ i less. sought.plain i (omega arith)) sought.literal yes in
    absurd (absent found.0 found.1))
    (λ none. none)
    (cases_Bool (fits_at ends fold p text))

pub fails_without : (ends fold : Bool) (p text : List ℕ) (o k : ℕ) → IsSought p o → (o + k < length text → ¬ Stands fold (get_or p o 0) (drop o text) k) → fits_at ends fold p (drop k text) ≡ false
fails_without ends fold p text o k sought absent =
    ⊎_elim
    (λ yes.
    let found = stands ends fold o p (drop k text) sought.within (λ i less. sought.plain i (omega arith)) sought.literal yes in
    let less : o < length text - k = subst (λ (n : ℕ). o < n) (length-drop k text) found.0 in
    let swapped : k + o ≡ o + k = omega arith in
    let same : get_or (drop k text) o 0 ≡ get_or (drop o text) k 0 = get_or-drop k text o 0 ∙ ap (λ i. get_or text i 0) swapped ∙ sym (get_or-drop o text k 0) in
    absurd (absent (omega arith) (subst (λ (b : ℕ). is_same fold b (get_or p o 0) ≡ true) same found.1)))
    (λ none. none)
    (cases_Bool (fits_at ends fold p (drop k text)))

pub not_both : (b : Bool) → IsTrue (not b) → ¬ (b ≡ true)
not_both true h e = absurd (true≢false (sym h))
not_both false h e = absurd (true≢false (sym e))
