-- The exchange on the head's word keeps the rule: it adds the entry, or finds a longer history and adds nothing.
use Rattle.std.proofs.Common.{◌≡◌, ℕ, ◌+◌, ◌<◌, ◌==◌, Bool, true, false, List, [], ◌∷◌, ◌++◌, length, refl, ap, sym, subst, arith, inl, length-append, None}
use Rattle.std.proofs.lemmas.List.{append-nil}
use Rattle.std.proofs.lemmas.Bool.Decides.{nat_tests}
use mathlib.Core.List.{IsPrefix}
use prog.Atomic.{either}
use Rattle.logbook.specs.Pages.{Cell, cell, keeps, no_nib, step, Moves, Goes}
use Rattle.history.specs.History.{IsCounted, Adds}
use Rattle.history.proofs.Beginnings.{as_long_is_whole}

-- what the exchange writes
abbrev pub written : ℕ → ℕ → ℕ
written count found = either (found == count) (count + 1) found

module _ {E : Type 0} where
  -- no client sees anything of the history, or moves it
  abbrev pub shown : List E → List E
  shown log = []

  abbrev pub moved : E → List E → List E → ℕ → Type 0
  moved ask before after answer = Unit {0}

  pub goes : (log seen : List E) (entry : E) (count : ℕ) → length seen ≡ count → IsPrefix seen log → (b : Bool) → (length log == count) ≡ b
      → Goes IsCounted shown (moved entry) 0 (seen, (no_nib, None)) (written count) (Adds (step 0 count (count + 1) entry) (seen, (no_nib, None))) ((length log, true) ∷ (0, true) ∷ []) log
  goes log seen entry count long begins true is =
      let here : length log ≡ count = grind (arith, nat_tests) in
      let all : seen ≡ log = as_long_is_whole seen log begins (omega arith) in
      let longer : written count (length log) ≡ length (log ++ entry ∷ []) = rw is (omega (arith, length-append log (entry ∷ []))) in (
        keeps,
        entry ∷ [],
        None,
        tt,
        ap (λ (n : ℕ). (n, true) ∷ (0, true) ∷ []) longer,
        inl (refl, refl),
        rw is (ap (λ known. known ++ entry ∷ []) (sym all)),
      )
  goes log seen entry count long begins false is =
      let same : log ++ [] ≡ log = append-nil log in
      let as_long : written count (length log) ≡ length (log ++ []) = rw is (ap length (sym same)) in (
        keeps,
        [],
        None,
        tt,
        ap (λ (n : ℕ). (n, true) ∷ (0, true) ∷ []) as_long,
        inl (refl, refl),
        rw is (ap length same),
      )

  pub moves : (seen : List E) (entry : E) (count : ℕ) → length seen ≡ count
      → Moves IsCounted shown (moved entry) 0 (seen, (no_nib, None)) (written count) (Adds (step 0 count (count + 1) entry) (seen, (no_nib, None)))
  moves seen entry count long cells log counted begins away =
      let P : List Cell → Type 0 =
      λ cells. (0 < length cells) × ((cell cells 0).1 ≡ true) × Goes IsCounted shown (moved entry) 0 (seen, (no_nib, None)) (written count) (Adds (step 0 count (count + 1) entry) (seen, (no_nib, None))) cells log in
      subst P (sym counted) (omega arith, refl, goes log seen entry count long begins (length log == count) refl)
