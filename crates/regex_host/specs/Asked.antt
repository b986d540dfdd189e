-- What a host is asked for, call by call.
use Rattle.std.specs.Prelude.{◌≡◌, ℕ, List, [], ◌∷◌, Bool}

-- a pattern, and whether the case of letters does not matter to it
pub record Asked : Type 0 where
  pub pattern : List ℕ
  pub fold : Bool

-- a host comes from one state to the other by calls that ask for these, each once and in their order, and by
-- nothing else; `asks` says what one call may do
abbrev pub AsksFor : {S : Type 0} → (S → Asked → S → Type 0) → S → List Asked → S → Type 0
AsksFor asks before [] now = now ≡ before
AsksFor {S = S} asks before (first ∷ rest) now = (between : S) × asks before first between × AsksFor asks between rest now
