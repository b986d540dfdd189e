-- What holds of the orders by which rules decide.
use Rattle.std.specs.Prelude.{◌≡◌, ℕ, List, [], ◌∷◌, ◌++◌, length, slice_index_or, Bool, true, false, Option, Some, None, if◌then◌else◌}
use Rattle.dnr_base.specs.declared.candidate.Candidate.{Candidate}
use Rattle.dnr_base.specs.declared.winner.Winner.{Winner}
use Rattle.dnr_spec.specs.Order.{unbeaten, beats, class_of, prevails}

-- no two beat each other, and where a beats b, a beats all that do not beat b
pub record IsOrder {X : Type 0} (goes_before : X → X → Bool) : Type 0 where
  pub one_way : (a b : X) → goes_before a b ≡ true → goes_before b a ≡ false
  pub between : (a b c : X) → goes_before a b ≡ true → goes_before c b ≡ false → goes_before a c ≡ true

-- of two candidates one beats the other, unless they have one rank and one id
abbrev pub OneBeats : Type 0
OneBeats = (a b : Candidate) → beats a b ≡ false → beats b a ≡ false → (a.rank ≡ b.rank) × (a.id ≡ b.id)

-- of two winners one prevails over the other, unless they have one class and one age
abbrev pub OnePrevails : Type 0
OnePrevails = (a b : Winner) → prevails a b ≡ false → prevails b a ≡ false → (class_of a.action ≡ class_of b.action) × (a.age ≡ b.age)

-- which one is unbeaten in a list with one more at its end, by which one is in the list
abbrev pub with_one_more : {X : Type 0} → (X → X → Bool) → List X → X → Option ℕ → Option ℕ
with_one_more goes_before list next None = Some (length list)
with_one_more goes_before list next (Some place) = if goes_before next (slice_index_or list place next) then Some (length list) else Some place

-- one more at the end of a list takes the place of the unbeaten one where it beats that one, and nowhere else
abbrev pub IsKept : {X : Type 0} → (X → X → Bool) → Type 0
IsKept {X} goes_before = (list : List X) (next : X) → unbeaten goes_before (list ++ next ∷ []) ≡ with_one_more goes_before list next (unbeaten goes_before list)
