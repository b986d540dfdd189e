-- Places of rules, some of which are gone.
use Rattle.std.specs.Prelude.{ℕ, zero, suc, ◌==◌, Bool, false, List, [], ◌∷◌, ◌++◌, Option, Some, None, if◌then◌else◌}
use Rattle.rule_spec.specs.Rule.{Rule}

abbrev pub listed : Option Rule → List Rule
listed None = []
listed (Some rule) = rule ∷ []

-- the rules that are there, in their order
abbrev pub there : List (Option Rule) → List Rule
there [] = []
there (slot ∷ slots) = listed slot ++ there slots

abbrev pub is_of : ℕ → Option Rule → Bool
is_of id None = false
is_of id (Some rule) = rule.id == id

abbrev pub cleared_one : ℕ → Option Rule → Option Rule
cleared_one id slot = if is_of id slot then None else slot

abbrev pub gone_one : ℕ → Option Rule → List Rule
gone_one id slot = if is_of id slot then listed slot else []

-- the places once the rule of this id is gone, if it is at this place
abbrev pub cleared : ℕ → ℕ → List (Option Rule) → List (Option Rule)
cleared id place [] = []
cleared id zero (slot ∷ slots) = cleared_one id slot ∷ slots
cleared id (suc place) (slot ∷ slots) = slot ∷ cleared id place slots

-- the rule that goes so, if one does
abbrev pub gone : ℕ → ℕ → List (Option Rule) → List Rule
gone id place [] = []
gone id zero (slot ∷ slots) = gone_one id slot
gone id (suc place) (slot ∷ slots) = gone id place slots
