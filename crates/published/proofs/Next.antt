-- A publish of the next copy.
use Rattle.std.proofs.Common.{◌≡◌, ℕ, List, [], ◌∷◌, ◌++◌, fold, refl, sym, ap, ◌∙◌, subst, inl, inr}
use Rattle.std.specs.Prelude.{Option, None, Result, Ok, Err, OnOk, OnErr}
use Rattle.left_right.specs.Register.{TurnsAt}
use Rattle.logbook.specs.Pages.{Book}
use Rattle.generation.specs.Basis.{Basis}
use Rattle.rule_spec.specs.State.{State}
use Rattle.update_spec.specs.Entries.{Entry, after, replay}
use Rattle.published.specs.Shared.{Copy, IsCopy, Keeps, Sees, latest}
use Rattle.published.specs.Ahead.{IsOneAhead, next_of, coming}
use Rattle.published.proofs.Beginnings.{begins_itself}
use Rattle.published.proofs.Entering.{grows}

abbrev pub with_state : Basis → State → Basis
with_state basis state = record { suffixes = basis.suffixes; state = state }

-- one entry more is one step more
pub replay_more : (state : State) (entries : List Entry) (entry : Entry) → replay state (entries ++ entry ∷ []) ≡ after (replay state entries) entry
replay_more state [] entry = refl
replay_more state (first ∷ entries) entry = replay_more (after state first) entries entry

-- the next copy is one of the history, where this one is
pub next_fits : (book : Book) (opening : Basis) (copy : Copy) (entry : Entry) → IsCopy book opening copy → IsCopy book opening (next_of copy entry)
next_fits book opening copy entry fits = record {
  named = fits.named;
  made =
      ap (λ (basis : Basis). with_state basis (after basis.state entry)) fits.made
      ∙ sym (ap (with_state opening) (replay_more opening.state copy.list entry));
}

-- a publish keeps the rule
pub goes_on : (book : Book) (opening : Basis) (seat : ℕ) (view : List Entry) (was now : Copy) (copies : List Copy) → IsOneAhead was copies → now ≡ fold latest was copies → TurnsAt (Keeps book opening) seat view was now (Sees book opening)
goes_on book opening seat view was now copies (inl none) is =
    let same : was ≡ now = sym (is ∙ ap (fold latest was) none) in
    subst (λ (copy : Copy). TurnsAt (Keeps book opening) seat view was copy (Sees book opening)) same (grows book opening seat view was was (λ fits. fits) (begins_itself was.list))
goes_on book opening seat view was now copies (inr one) is =
    let same : next_of was one.0 ≡ now = sym (is ∙ ap (fold latest was) one.1) in
    subst (λ (copy : Copy). TurnsAt (Keeps book opening) seat view was copy (Sees book opening)) same (grows book opening seat view was (next_of was one.0) (next_fits book opening was one.0) (one.0 ∷ [], refl))

-- the next copy, or this one, is one of the history
pub latest_fits : (book : Book) (opening : Basis) (copy : Copy) (copies : List Copy) → IsOneAhead copy copies → IsCopy book opening copy → IsCopy book opening (fold latest copy copies)
latest_fits book opening copy copies (inl none) fits = subst (IsCopy book opening) (sym (ap (fold latest copy) none)) fits
latest_fits book opening copy copies (inr one) fits = subst (IsCopy book opening) (sym (ap (fold latest copy) one.1)) (next_fits book opening copy one.0 fits)

-- what a publish leaves, whether it was refused or not
pub left_fit : {U E : Type 0} (book : Book) (opening : Basis) (was now : Copy) (kept : Option Copy) (handed rest : List Copy) (result : Result U E) → kept ≡ None → IsCopy book opening was → IsOneAhead was handed
    → OnOk result ((now ≡ fold latest was handed) × (rest ≡ [])) → OnErr result ((now ≡ was) × (rest ≡ handed)) → IsCopy book opening now × IsOneAhead now (coming kept rest)
left_fit book opening was now kept handed rest (Ok u) none fits ahead ok err =
    (subst (IsCopy book opening) (sym ok.0) (latest_fits book opening was handed ahead fits), rw none (inl ok.1))
left_fit book opening was now kept handed rest (Err e) none fits ahead ok err =
    (subst (IsCopy book opening) (sym err.0) fits, rw (none, err.0, err.1) ahead)
