-- Rules that stand in segments, oldest first, of which some are removed.
use Rattle.std.specs.Prelude.{◌≡◌, ℕ, ◌+◌, ◌*◌, ◌^◌, ◌<◌, ◌≤◌, ◌==◌, List, [], ◌∷◌, drop, filter, flat_map, length, map, slice_index_or}
use Rattle.std.specs.List.{AllByRecursion}
use Rattle.rule_spec.specs.Rule.{Rule}
use Rattle.update_spec.specs.Update.{without_ids}
use Rattle.index_laws.specs.Segments as law

pub record Segment : Type 0 where
  pub rules : List Rule
  pub removed : List ℕ

-- those of its rules that are not removed
abbrev pub live_in : Segment → List Rule
live_in segment = without_ids segment.removed segment.rules

-- those of all segments
abbrev pub live_among : List Segment → List Rule
live_among segments = flat_map live_in segments

-- the segments are few for so many rules
abbrev pub AreFew : List Segment → Type 0
AreFew segments = 2 ^ length segments ≤ 2 * length (live_among segments) + 1

-- at least half of its rules are live
abbrev pub IsHalfLive : Segment → Type 0
IsHalfLive segment = length segment.rules ≤ 2 * length (live_in segment)

abbrev pub AreHalfLive : List Segment → Type 0
AreHalfLive segments = AllByRecursion IsHalfLive segments

abbrev pub of_id : ℕ → List Rule → List Rule
of_id id rules = filter (λ rule. id == rule.id) rules

-- ---- segments that taper

-- a segment, counted by its live rules alone
abbrev pub weight : Segment → law.Segment
weight segment = record { rules = length (live_in segment); live = length (live_in segment) }

-- each has live rules, and more than twice as many as the next
abbrev pub AreTapered : List Segment → Type 0
AreTapered segments = law.AreTapered (map weight segments)

-- a segment before these would have more than twice as many live rules as the first of them
abbrev pub IsAbove : ℕ → List Segment → Type 0
IsAbove count [] = Unit {0}
IsAbove count (first ∷ segments) = 2 * length (live_in first) < count

-- the segment before this place has more than twice as many live rules as those from it on and so many newer ones together
abbrev pub IsAboveFrom : List Segment → ℕ → ℕ → Type 0
IsAboveFrom segments start newer =
    (k : ℕ) (older : Segment) → k + 1 ≡ start
    → 2 * (length (live_among (drop start segments)) + newer) < length (live_in (slice_index_or segments k older))

-- the last of the segments on the left is above those on the right
abbrev pub LastIsAbove : List Segment → List Segment → Type 0
LastIsAbove left right = (k : ℕ) (last : Segment) → k + 1 ≡ length left → IsAbove (length (live_in (slice_index_or left k last))) right
