-- Places that rise and leave out no element that passes give what the whole list gives.
use Rattle.std.proofs.Common.{◌≡◌, ◌≢◌, ℕ, zero, suc, ◌+◌, ◌-◌, ◌<◌, ◌≤◌, ◌==◌, List, [], ◌∷◌, ◌++◌, length, get_or, fold, filter, Bool, true, false, cond, Option, Some, None, inl, inr, refl, sym, ap, ◌∙◌, subst, arith, append_assoc, append-nil}
use Rattle.std.specs.Prelude.{slice_get, ⊤}
use Rattle.std.specs.List.{Contains, filter_map, cons_option}
use Rattle.std.specs.List.Sorted.{IsStrictlyIncreasing}
use Rattle.std.proofs.lemmas.Bool.{cases_Bool, eqb-true, eqb-false}
use Rattle.index_laws.specs.Served.{at_places, Serve, decides_on, CandidatesAreServed}

-- ---- places that rise

-- none is below this one, and each is above the one before
abbrev Rise : ℕ → List ℕ → Type 0
Rise first [] = Unit {0}
Rise first (place ∷ places) = (first ≤ place) × Rise (place + 1) places

rise : (first : ℕ) (places : List ℕ) → (0 < length places → first ≤ get_or places 0 0) → IsStrictlyIncreasing places → Rise first places
rise first [] least rising = tt
rise first (place ∷ places) least rising = (
  least (omega arith),
  rise (place + 1) places (λ some. let next = rising 0 (omega arith) in omega arith)
      (λ k within. let e : suc k + 1 ≡ suc (k + 1) = omega arith in subst (λ n. get_or places k 0 < get_or (place ∷ places) n 0) e (rising (suc k) (omega arith))),
)

later : (first other : ℕ) (places : List ℕ) → other ≤ first → Rise first places → Rise other places
later first other [] less rising = tt
later first other (place ∷ places) less rising = (let a = rising.0 in omega arith, rising.1)

none_below : (first : ℕ) (places : List ℕ) (place : ℕ) → Rise first places → Contains places place → first ≤ place
none_below first [] place rising has = absurd (let w = has.1 in omega arith)
none_below first (own ∷ places) place rising (zero, within, is) = let a = rising.0 in let b : own ≡ place = is in omega arith
none_below first (own ∷ places) place rising (suc k, within, is) = let a = rising.0 in let b = none_below (own + 1) places place rising.1 (k, omega arith, is) in omega arith

behind_first : (own : ℕ) (places : List ℕ) (place : ℕ) → own < place → Contains (own ∷ places) place → Contains places place
behind_first own places place less (zero, within, is) = absurd (let b : own ≡ place = is in omega arith)
behind_first own places place less (suc k, within, is) = (k, omega arith, is)

-- ---- a fold

module _ {K X : Type 0} (step : K → X → K) (Fits : K → Type 0) (test : X → Bool) (skips : (kept : K) (x : X) → Fits kept → test x ≡ false → step kept x ≡ kept) (lasts : (kept : K) (x : X) → Fits kept → Fits (step kept x)) where
  -- the elements stand at the places from the first on
  abbrev Stand : (ℕ → Option X) → ℕ → List X → Type 0
  Stand at first xs = (k : ℕ) → at (first + k) ≡ slice_get xs k

  abbrev AllThere : ℕ → List X → List ℕ → Type 0
  AllThere first xs places = (k : ℕ) (x : X) → slice_get xs k ≡ Some x → test x ≡ true → Contains places (first + k)

  nothing_left : (at : ℕ → Option X) (first : ℕ) (places : List ℕ) (kept : K) → Stand at first [] → Rise first places → fold step kept (filter_map at places) ≡ kept
  nothing_left at first [] kept stand rising = refl
  nothing_left at first (place ∷ places) kept stand rising =
      let least = rising.0 in
      let own : first + (place - first) ≡ place = omega arith in
      let none : at place ≡ None = ap at (sym own) ∙ stand (place - first) in
      rw none (nothing_left at first places kept stand (later (place + 1) first places (omega arith) rising.1))

  stand_on : (at : ℕ → Option X) (first : ℕ) (x : X) (xs : List X) → Stand at first (x ∷ xs) → Stand at (first + 1) xs
  stand_on at first x xs stand k = let e : (first + 1) + k ≡ first + suc k = omega arith in ap at e ∙ stand (suc k)

  all_on : (first : ℕ) (own : X) (xs : List X) (places others : List ℕ) → ((place : ℕ) → first < place → Contains places place → Contains others place) → AllThere first (own ∷ xs) places → AllThere (first + 1) xs others
  all_on first own xs places others same all k x is passes =
      let e : first + suc k ≡ (first + 1) + k = omega arith in
      subst (λ n. Contains others n) e (same (first + suc k) (omega arith) (all (suc k) x is passes))

  -- one element, where the others are done
  abbrev Rest : (ℕ → Option X) → ℕ → List X → Type 0
  Rest at first xs = (places : List ℕ) (kept : K) → Fits kept → Rise first places → AllThere first xs places → fold step kept (filter_map at places) ≡ fold step kept xs

  missed : (at : ℕ → Option X) (first : ℕ) (x : X) (xs : List X) (kept : K) → Fits kept → Rest at (first + 1) xs → (places : List ℕ) → Rise (first + 1) places → AllThere first (x ∷ xs) places → fold step kept (filter_map at places) ≡ fold step (step kept x) xs
  missed at first x xs kept fits rest places rising all =
      let fails : test x ≡ false =
      elim (cases_Bool (test x)) [
        | inl passes ↦ absurd (let b = none_below (first + 1) places (first + 0) rising (all 0 x refl passes) in omega arith)
        | inr fails ↦ fails
      ] in
      rest places kept fits rising (all_on first x xs places places (λ place less has. has) all) ∙ ap (λ k. fold step k xs) (sym (skips kept x fits fails))

  go : (at : ℕ → Option X) (first : ℕ) (x : X) (xs : List X) (kept : K) → Fits kept → Stand at first (x ∷ xs) → Rest at (first + 1) xs → (places : List ℕ) → Rise first places → AllThere first (x ∷ xs) places → fold step kept (filter_map at places) ≡ fold step (step kept x) xs
  go at first x xs kept fits stand rest [] rising all = missed at first x xs kept fits rest [] tt all
  go at first x xs kept fits stand rest (place ∷ places) rising all =
      elim (cases_Bool (place == first)) [
        | inl same ↦
            let own : place ≡ first = eqb-true place first same in
            let zeroth : first ≡ first + 0 = omega arith in
            let here : at place ≡ Some x = ap at (own ∙ zeroth) ∙ stand 0 in
            rw here (rest places (step kept x) (lasts kept x fits) (later (place + 1) (first + 1) places (omega arith) rising.1)
            (all_on first x xs (place ∷ places) places (λ other less has. behind_first place places other (omega arith) has) all))
        | inr other ↦
            let least = rising.0 in
            let differs : place ≢ first = eqb-false place first other in
            missed at first x xs kept fits rest (place ∷ places) (omega arith, rising.1) all
      ]

  folded : (at : ℕ → Option X) (first : ℕ) (xs : List X) (places : List ℕ) (kept : K) → Fits kept → Stand at first xs → Rise first places → AllThere first xs places → fold step kept (filter_map at places) ≡ fold step kept xs
  folded at first [] places kept fits stand rising all = nothing_left at first places kept stand rising
  folded at first (x ∷ xs) places kept fits stand rising all =
      go at first x xs kept fits stand (λ places kept fits rising all. folded at (first + 1) xs places kept fits (stand_on at first x xs stand) rising all) places rising all

  -- where the step does nothing with an element that does not pass, places that serve give the fold of the whole list
  pub served : (xs : List X) (places : List ℕ) (kept : K) → Fits kept → Serve test xs places → fold step kept (at_places xs places) ≡ fold step kept xs
  served xs places kept fits serve =
      folded (slice_get xs) 0 xs places kept fits (λ k. let e : 0 + k ≡ k = omega arith in ap (slice_get xs) e) (rise 0 places (λ some. omega arith) serve.rising)
      (λ k x is passes. let e : k ≡ 0 + k = omega arith in subst (λ n. Contains places n) e (serve.all k x is passes))

-- ---- a filter

abbrev push_if : {X : Type 0} → (X → Bool) → List X → X → List X
push_if test kept x = kept ++ cond (test x) (x ∷ []) []

pushed : {X : Type 0} (test : X → Bool) (kept xs : List X) → fold (push_if test) kept xs ≡ kept ++ filter test xs
pushed test kept [] = sym (append-nil kept)
pushed test kept (x ∷ xs) = pushed test (push_if test kept x) xs ∙ append_assoc kept (cond (test x) (x ∷ []) []) (filter test xs) ∙ ap (λ ys. kept ++ ys) (by (test x))
  where
    by : (b : Bool) → cond b (x ∷ []) [] ++ filter test xs ≡ cond b (x ∷ filter test xs) (filter test xs)
    by true = refl
    by false = refl

pub served_filter : {X : Type 0} (test : X → Bool) (xs : List X) (places : List ℕ) → Serve test xs places → filter test (at_places xs places) ≡ filter test xs
served_filter test xs places serve =
    sym (pushed test [] (at_places xs places))
    ∙ served (push_if test) (λ kept. ⊤) test (λ kept x fits no. ap (λ b. kept ++ cond b (x ∷ []) []) no ∙ append-nil kept) (λ kept x fits. tt) xs places [] tt serve
    ∙ pushed test [] xs

pub candidates_are_served : CandidatesAreServed
candidates_are_served suffixes extension access request lives places serve = served_filter (decides_on suffixes extension access request) lives places serve
