-- The search over frames, one frame further.
use Rattle.std.proofs.Common.{arith, add-one, ◌≡◌, ◌<◌, ◌≤◌, ◌+◌, ℕ, zero, suc, List, [], ◌∷◌, length, drop, slice_get, true, false, Some, if◌then◌else◌, refl}
use Rattle.dnr_base.specs.declared.request.Request.{Request}
use Rattle.dnr_base.specs.Request.{frame_part}
use Rattle.dnr_spec.specs.Suffixes.{SuffixRule}
use Rattle.rule_spec.specs.Rule.{Rule}
use Rattle.rule_spec.specs.Reaches.{first_frame, holds_on_part}
use Rattle.rule_match.specs.Tested.{frames_tested, part_count}

-- what stands at a place within a list, and behind it
there : {X : Type 0} (xs : List X) (k : ℕ) → k < length xs → (x : X) × (slice_get xs k ≡ Some x) × (drop k xs ≡ x ∷ drop (suc k) xs)
there [] k within = absurd (omega arith)
there (x ∷ xs) zero within = (x, refl, refl)
there (x ∷ xs) (suc k) within = there xs k (omega arith)

first_frame_step : (suffixes : List SuffixRule) (rule : Rule) (request : Request) (place : ℕ) → place < length request.frames
    → first_frame suffixes rule request place (drop place request.frames)
    ≡ (if holds_on_part suffixes rule (frame_part request place) then Some place
    else first_frame suffixes rule request (place + 1) (drop (place + 1) request.frames))
first_frame_step suffixes rule request place within =
    let t = there request.frames place within in rw (t.1, t.2, add-one)

frames_tested_step : (suffixes : List SuffixRule) (rule : Rule) (request : Request) (place : ℕ) → place < length request.frames
    → frames_tested suffixes rule request place (drop place request.frames)
    ≡ part_count (frame_part request place)
    + (if holds_on_part suffixes rule (frame_part request place) then 0
    else frames_tested suffixes rule request (place + 1) (drop (place + 1) request.frames))
frames_tested_step suffixes rule request place within =
    let t = there request.frames place within in rw (t.1, t.2, add-one)

-- ---- where the rule holds on the frame at this place

pub first_frame_here : (suffixes : List SuffixRule) (rule : Rule) (request : Request) (place : ℕ) → place < length request.frames
    → true ≡ holds_on_part suffixes rule (frame_part request place)
    → first_frame suffixes rule request place (drop place request.frames) ≡ Some place
first_frame_here suffixes rule request place within holds = rw (first_frame_step suffixes rule request place within, ← holds)

pub frames_tested_here : (suffixes : List SuffixRule) (rule : Rule) (request : Request) (place : ℕ) → place < length request.frames
    → true ≡ holds_on_part suffixes rule (frame_part request place)
    → frames_tested suffixes rule request place (drop place request.frames) ≡ part_count (frame_part request place)
frames_tested_here suffixes rule request place within holds =
    rw (frames_tested_step suffixes rule request place within, ← holds) (omega arith)

-- ---- where it does not

pub first_frame_later : (suffixes : List SuffixRule) (rule : Rule) (request : Request) (place : ℕ) → place < length request.frames
    → false ≡ holds_on_part suffixes rule (frame_part request place)
    → first_frame suffixes rule request place (drop place request.frames)
    ≡ first_frame suffixes rule request (place + 1) (drop (place + 1) request.frames)
first_frame_later suffixes rule request place within fails = rw (first_frame_step suffixes rule request place within, ← fails)

pub frames_tested_later : (suffixes : List SuffixRule) (rule : Rule) (request : Request) (place : ℕ) → place < length request.frames
    → false ≡ holds_on_part suffixes rule (frame_part request place)
    → frames_tested suffixes rule request place (drop place request.frames)
    ≡ part_count (frame_part request place) + frames_tested suffixes rule request (place + 1) (drop (place + 1) request.frames)
frames_tested_later suffixes rule request place within fails = rw (frames_tested_step suffixes rule request place within, ← fails)

-- ---- in either case

pub frames_tested_some : (suffixes : List SuffixRule) (rule : Rule) (request : Request) (place : ℕ) → place < length request.frames
    → part_count (frame_part request place) ≤ frames_tested suffixes rule request place (drop place request.frames)
frames_tested_some suffixes rule request place within =
    let e = frames_tested_step suffixes rule request place within in omega arith

pub ruleset frame_steps = (first_frame_here, frames_tested_here, first_frame_later, frames_tested_later, frames_tested_some)
