-- One index over the rules of several lists, which stand one list behind another.
use Rattle.std.specs.Prelude.{ℕ, ◌≡◌, ◌+◌, ◌-◌, ◌<◌, ◌^◌, List, [], ◌∷◌, length, map, nat_lt, Option, Some, None, if◌then◌else◌}
use Rattle.std.specs.List.{flat_map}
use Rattle.std.specs.List.Sorted.{IsNonDecreasingBy}
use Rattle.rule_index.specs.Lists.{ListIndex, IsListIndexOf}
use Rattle.rule_spec.specs.Rule.{Rule}
use Rattle.rule_spec.specs.State.{RuleSet}

-- the rules of each ruleset, enabled or not
abbrev pub lists_of : List RuleSet → List (List Rule)
lists_of sets = map (λ set. set.rules) sets

-- the rules of all lists
abbrev pub rules_among : List (List Rule) → List Rule
rules_among lists = flat_map (λ rules. rules) lists

-- where each list begins, the first at this place
abbrev pub starts_from : ℕ → List (List Rule) → List ℕ
starts_from start [] = []
starts_from start (rules ∷ lists) = start ∷ starts_from (start + length rules) lists

-- the list in which a place stands, the first one with this number, and the place there
abbrev pub place_in : ℕ → List (List Rule) → ℕ → Option (ℕ × ℕ)
place_in number [] place = None
place_in number (rules ∷ lists) place =
    if nat_lt place (length rules) then Some (number, place)
    else place_in (number + 1) lists (place - length rules)

-- what a clause sees of such an index: where lists begin, and how many rules there are
pub record StaticIndex : Type 0 where
  pub index : ListIndex
  pub starts : List ℕ
  pub count : ℕ

pub record IsStaticIndexOf (lists : List (List Rule)) (joint : StaticIndex) : Type 0 where
  pub index : IsListIndexOf (rules_among lists) joint.index
  pub starts : joint.starts ≡ starts_from 0 lists
  pub count : joint.count ≡ length (rules_among lists)

-- none begins before an earlier one, and they have numbers
pub record AreStarts (starts : List ℕ) : Type 0 where
  pub rising : IsNonDecreasingBy (λ start. start) starts
  pub few : length starts < 2 ^ 32
