-- Segments of rules, oldest first, of which some rules are live.
use Rattle.std.specs.Prelude.{ℕ, ◌+◌, ◌*◌, ◌^◌, ◌<◌, ◌≤◌, List, [], ◌∷◌, length, sum_by}

-- how many rules a segment has, and how many of them are live
pub record Segment : Type 0 where
  pub rules : ℕ
  pub live : ℕ

-- there are rules, and at least half of them are live
pub record IsHalfLive (segment : Segment) : Type 0 where
  pub some : 0 < segment.rules
  pub half : segment.rules ≤ 2 * segment.live

-- each has more than twice as many rules as the next
abbrev pub AreTapered : List Segment → Type 0
AreTapered [] = Unit {0}
AreTapered (first ∷ []) = IsHalfLive first
AreTapered (first ∷ second ∷ segments) = IsHalfLive first × (2 * second.rules < first.rules) × AreTapered (second ∷ segments)

abbrev pub live_in : List Segment → ℕ
live_in segments = sum_by (λ segment. segment.live) segments

abbrev pub SegmentsAreFew : Type 0
SegmentsAreFew = (segments : List Segment) → AreTapered segments → 2 ^ length segments ≤ 2 * live_in segments + 1
