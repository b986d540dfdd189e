-- The first place that passes a test, of those that are looked at.
use Rattle.std.proofs.Common.{◌≡◌, ℕ, zero, suc, ◌+◌, take, length, get_or, ◌≤◌, ◌<◌, List, [], ◌∷◌, ◌++◌, Bool, true, false, cond, ◌&&◌, ◌||◌, ◌==◌, Option, Some, None, refl, sym, ap, ◌∙◌, subst, ⊎_elim, arith}
use Rattle.std.specs.Prelude.{nat_lt, IfSome, IsSomeAnd, option_and_then}
use Rattle.std.specs.List.{list_any, slice_get, find}
use Rattle.std.specs.Option.{option_map_or}
use Rattle.std.proofs.lemmas.Bool.{and_parts, or_cases, true≢false, eqb-true, cases_Bool}
use Rattle.std.proofs.lemmas.Bool.Decides.{nat_tests}
use Rattle.std.proofs.lemmas.List.{take_more}
use Rattle.rule_prune.specs.Filters.{has_place, stands_before, nearer, nearest}

-- ---- one after another

pub nearest_both : (test : ℕ → Bool) (best : Option ℕ) (xs ys : List ℕ) → nearest test best (xs ++ ys) ≡ nearest test (nearest test best xs) ys
nearest_both test best [] ys = refl
nearest_both test best (x ∷ xs) ys = nearest_both test (nearer test best x) xs ys

-- a walk through a list
pub nearest_more : (test : ℕ → Bool) (best : Option ℕ) (places : List ℕ) (i d : ℕ) → i < length places → nearest test best (take (i + 1) places) ≡ nearer test (nearest test best (take i places)) (get_or places i d)
nearest_more test best places i d less = ap (nearest test best) (take_more places i d less) ∙ nearest_both test best (take i places) (get_or places i d ∷ [])

module _ (test : ℕ → Bool) where
  abbrev Passes : Option ℕ → Type 0
  Passes best = IfSome best (λ m. test m ≡ true)

  abbrev AtMost : Option ℕ → ℕ → Type 0
  AtMost best place = IsSomeAnd best (λ m. m ≤ place)

  nearer_passes : (best : Option ℕ) (place : ℕ) → Passes best → Passes (nearer test best place)
  nearer_passes best place h = by (stands_before place best && test place) refl
    where
      by : (b : Bool) → (stands_before place best && test place) ≡ b → Passes (cond b (Some place) best)
      by true e = (and_parts (stands_before place best) (test place) e).1
      by false e = h

  nearer_keeps : (best : Option ℕ) (place other : ℕ) → AtMost best other → AtMost (nearer test best place) other
  nearer_keeps None place other h = absurd h
  nearer_keeps (Some m) place other h = by (nat_lt place m && test place) refl
    where
      by : (b : Bool) → (nat_lt place m && test place) ≡ b → AtMost (cond b (Some place) (Some m)) other
      by true e = let less : place < m = grind (arith, nat_tests, (and_parts (nat_lt place m) (test place) e).0) in omega (arith, less, h)
      by false e = h

  nearer_takes : (best : Option ℕ) (place : ℕ) → test place ≡ true → AtMost (nearer test best place) place
  nearer_takes None place h = subst (λ b. AtMost (cond b (Some place) None) place) (sym h) (omega arith)
  nearer_takes (Some m) place h =
      ⊎_elim
      (λ less. subst (λ b. AtMost (cond b (Some place) (Some m)) place) (sym ((λ i. less i && h i))) (omega arith))
      (λ more.
      let below : m ≤ place = grind (arith, nat_tests, more) in
      subst (λ b. AtMost (cond b (Some place) (Some m)) place) (sym (ap (λ l. l && test place) more)) below)
      (cases_Bool (nat_lt place m))

  pub nearest_passes : (places : List ℕ) (best : Option ℕ) → Passes best → Passes (nearest test best places)
  nearest_passes [] best h = h
  nearest_passes (x ∷ places) best h = nearest_passes places (nearer test best x) (nearer_passes best x h)

  nearest_keeps : (places : List ℕ) (best : Option ℕ) (other : ℕ) → AtMost best other → AtMost (nearest test best places) other
  nearest_keeps [] best other h = h
  nearest_keeps (x ∷ places) best other h = nearest_keeps places (nearer test best x) other (nearer_keeps best x other h)

  pub nearest_least : (places : List ℕ) (best : Option ℕ) (place : ℕ) → has_place places place ≡ true → test place ≡ true → AtMost (nearest test best places) place
  nearest_least [] best place h t = absurd (true≢false (sym h))
  nearest_least (x ∷ places) best place h t =
      ⊎_elim
      (λ same. nearest_keeps places (nearer test best x) place (subst (AtMost (nearer test best x)) (eqb-true x place same) (nearer_takes best x (ap test (eqb-true x place same) ∙ t))))
      (λ later. nearest_least places (nearer test best x) place later t)
      (or_cases (x == place) (has_place places place) h)

-- ---- as a list has it

-- the place that is found passes, and stands no later than any that does
pub record IsLeast (test : ℕ → Bool) (found : Option ℕ) : Type 0 where
  pub passes : IfSome found (λ m. test m ≡ true)
  pub least : (place : ℕ) → test place ≡ true → IsSomeAnd found (λ m. m ≤ place)

module _ {X : Type 0} (p : X → Bool) where
  -- the element at a place is there and passes
  abbrev pub passes_at : List X → ℕ → Bool
  passes_at list place = option_map_or p (slice_get list place) false

  never : (found : Option ℕ) → IfSome found (λ m. false ≡ true) → find p [] ≡ option_and_then (slice_get {X = X} []) found
  never None h = refl
  never (Some m) h = absurd (true≢false (sym h))

  at_first : (x : X) (list : List X) (found : Option ℕ) → IsSomeAnd found (λ m. m ≤ 0) → Some x ≡ option_and_then (slice_get (x ∷ list)) found
  at_first x list None h = absurd h
  at_first x list (Some zero) h = refl
  at_first x list (Some (suc m)) h = absurd (omega (arith, h))

  -- all that the rest of a list is found by
  abbrev FoundIn : List X → Type 0
  FoundIn list = (test : ℕ → Bool) → ((place : ℕ) → test place ≡ passes_at list place) → (found : Option ℕ) → IsLeast test found → find p list ≡ option_and_then (slice_get list) found

  behind : (m place : ℕ) → suc m ≤ suc place → m ≤ place
  behind m place h = omega (arith, h)

  found_behind : (x : X) (list : List X) → p x ≡ false → FoundIn list → (test : ℕ → Bool) → ((place : ℕ) → test place ≡ passes_at (x ∷ list) place) → (found : Option ℕ) → IsLeast test found
      → find p list ≡ option_and_then (slice_get (x ∷ list)) found
  found_behind x list fails rest test same None is =
      rest (λ place. test (suc place)) (λ place. same (suc place)) None (record { passes = tt; least = λ place t. is.least (suc place) t })
  found_behind x list fails rest test same (Some zero) is = absurd (true≢false (sym is.passes ∙ same 0 ∙ fails))
  found_behind x list fails rest test same (Some (suc m)) is =
      rest (λ place. test (suc place)) (λ place. same (suc place)) (Some m) (record { passes = is.passes; least = λ place t. behind m place (is.least (suc place) t) })

  turned : (test : ℕ → Bool) → ((place : ℕ) → test place ≡ false) → (o : Option ℕ) → IfSome o (λ m. test m ≡ true) → IfSome o (λ m. false ≡ true)
  turned test same None h = h
  turned test same (Some m) h = sym (same m) ∙ h

  pub found_first : (list : List X) → FoundIn list
  found_first [] test same found is = never found (turned test same found is.passes)
  found_first (x ∷ list) test same found is =
      ⊎_elim
      (λ yes. ap (λ b. cond b (Some x) (find p list)) yes ∙ at_first x list found (is.least 0 (same 0 ∙ yes)))
      (λ fails. ap (λ b. cond b (Some x) (find p list)) fails ∙ found_behind x list fails (found_first list) test same found is)
      (cases_Bool (p x))

  -- some element passes where a place does
  pub some_passes : (list : List X) → list_any p list ≡ true → (place : ℕ) × (passes_at list place ≡ true)
  some_passes [] h = absurd (true≢false (sym h))
  some_passes (x ∷ list) h =
      ⊎_elim (λ here. (0, here)) (λ later. let r = some_passes list later in (suc r.0, r.1)) (or_cases (p x) (list_any p list) h)

  pub any_passes : (list : List X) (place : ℕ) → passes_at list place ≡ true → list_any p list ≡ true
  any_passes [] place h = absurd (true≢false (sym h))
  any_passes (x ∷ list) zero h = ap (λ b. b || list_any p list) h
  any_passes (x ∷ list) (suc place) h = ⊎_elim (λ yes. ap (λ b. b || list_any p list) yes) (λ fails. ap (λ b. b || list_any p list) fails ∙ any_passes list place h) (cases_Bool (p x))
