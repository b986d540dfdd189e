-- In how many segments rules stand that were added to extensions.
use Rattle.std.specs.Prelude.{◌≡◌, ℕ, List, [], ◌∷◌, ⊤, length, max}
use Rattle.std.specs.List.{flat_map}
use Rattle.rule_segments.specs.Segments.{AreFew, AreHalfLive, Segment, live_among}
use Rattle.rule_spec.specs.Rule.{Rule}
use Rattle.rule_spec.specs.State.{Extension}

-- the lists of rules that were added to an extension
abbrev pub lists_of : Extension → List (List Rule)
lists_of extension = extension.session ∷ extension.dynamic ∷ []

abbrev pub added_lists : List Extension → List (List Rule)
added_lists extensions = flat_map lists_of extensions

-- the rules of a list stand in these segments
pub record StandIn (rules : List Rule) (segments : List Segment) : Type 0 where
  pub live : live_among segments ≡ rules
  pub few : AreFew segments
  pub half : AreHalfLive segments

-- so do the rules of each of the lists, in segments of its own
abbrev pub EachStandsIn : List (List Rule) → List (List Segment) → Type 0
EachStandsIn [] [] = ⊤
EachStandsIn [] (segments ∷ others) = ⊥
EachStandsIn (rules ∷ lists) [] = ⊥
EachStandsIn (rules ∷ lists) (segments ∷ others) = StandIn rules segments × EachStandsIn lists others

-- how many the longest has
abbrev pub most_of : List (List Segment) → ℕ
most_of [] = 0
most_of (segments ∷ others) = max (length segments) (most_of others)

-- the segments in which the lists stand, of which none has more of them than this, and one so many
pub record AreMost (lists : List (List Rule)) (count : ℕ) : Type 0 where
  pub segments : List (List Segment)
  pub stand : EachStandsIn lists segments
  pub most : count ≡ most_of segments
