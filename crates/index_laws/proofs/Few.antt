use Rattle.std.proofs.Common.{◌≡◌, suc, ◌+◌, ◌*◌, ◌^◌, ◌<◌, ◌≤◌, List, [], ◌∷◌, length, refl, arith}
use Rattle.std.proofs.lemmas.Grind.{common_steps}
use Rattle.index_laws.specs.Segments.{Segment, IsHalfLive, AreTapered, live_in, SegmentsAreFew}

-- the first is the longest by far
few : (first : Segment) (segments : List Segment) → AreTapered (first ∷ segments) → 2 ^ length (first ∷ segments) ≤ first.rules + 1
few first [] is = let s = is.some in let one : 2 ^ 1 ≡ 2 = refl in omega arith
few first (second ∷ segments) is =
    let rest : 2 ^ length (second ∷ segments) ≤ second.rules + 1 = few second segments is.2 in
    let more : 2 ^ suc (length (second ∷ segments)) ≡ 2 ^ length (second ∷ segments) * 2 = grind (arith, common_steps) in
    let twice : 2 * second.rules < first.rules = is.1 in
    omega arith

first_half : (first : Segment) (segments : List Segment) → AreTapered (first ∷ segments) → IsHalfLive first
first_half first [] is = is
first_half first (second ∷ segments) is = is.0

pub segments_are_few : SegmentsAreFew
segments_are_few [] is = omega arith
segments_are_few (first ∷ segments) is =
    let long : 2 ^ length (first ∷ segments) ≤ first.rules + 1 = few first segments is in
    let half : first.rules ≤ 2 * first.live = (first_half first segments is).half in
    let total : live_in (first ∷ segments) ≡ first.live + live_in segments = grind (arith, common_steps) in
    omega arith
