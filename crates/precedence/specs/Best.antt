-- The best so far, as it is kept while a list is walked.
use Rattle.std.specs.Prelude.{◌≡◌, ℕ, List, [], ◌∷◌, ◌++◌, length, Bool, true, false, Option, Some, None, if◌then◌else◌}
use Rattle.std.specs.List.{AllByRecursion}

-- the element at this place: it beats all before it, and none behind it beats it
pub record IsBest {X : Type 0} (goes_before : X → X → Bool) (list : List X) (place : ℕ) (best : X) : Type 0 where
  pub before : List X
  pub behind : List X
  pub cut : list ≡ before ++ best ∷ behind
  pub stands : place ≡ length before
  pub beaten : AllByRecursion (λ x. goes_before best x ≡ true) before
  pub unbeaten : AllByRecursion (λ x. goes_before x best ≡ false) behind

-- what is kept of a list: nothing of the empty one, or the best with its place
abbrev pub Keeps : {X : Type 0} → (X → X → Bool) → List X → Option (ℕ × X) → Type 0
Keeps goes_before list None = list ≡ []
Keeps goes_before list (Some kept) = IsBest goes_before list kept.0 kept.1

-- what is kept with one more, which stands at this place
abbrev pub better : {X : Type 0} → (X → X → Bool) → Option (ℕ × X) → ℕ → X → Option (ℕ × X)
better goes_before None place next = Some (place, next)
better goes_before (Some kept) place next = if goes_before next kept.1 then Some (place, next) else Some kept
