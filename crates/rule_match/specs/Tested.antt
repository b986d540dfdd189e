-- On how many parts of a request a rule is tested: on the request itself, and if it does not hold there and may reach
-- by frames, on the frames that have a URL, the outermost first, up to the first on which it holds.
use Rattle.std.specs.Prelude.{ℕ, ◌+◌, List, [], ◌∷◌, Bool, true, false, ◌&&◌, Option, Some, None, if◌then◌else◌}
use Rattle.dnr_base.specs.declared.frame.Frame.{Frame}
use Rattle.dnr_base.specs.declared.request.Request.{Request}
use Rattle.dnr_base.specs.Request.{Part, own_part, frame_part, frame_part_of}
use Rattle.dnr_spec.specs.Suffixes.{SuffixRule}
use Rattle.rule_spec.specs.declared.reach.Reach.{Reach}
use Rattle.rule_spec.specs.declared.reach.Reach.TheVariants.{Own, Frame as by_frame}
use Rattle.rule_spec.specs.Rule.{Action, block, redirect, allow, upgrade_scheme, modify_headers, allow_all_requests, Rule}
use Rattle.rule_spec.specs.Holds.{holds}
use Rattle.rule_spec.specs.Reaches.{holds_on_part}

abbrev pub reaches_by_frames : Action → Bool
reaches_by_frames block = false
reaches_by_frames (redirect target) = false
reaches_by_frames allow = false
reaches_by_frames upgrade_scheme = false
reaches_by_frames (modify_headers request response) = false
reaches_by_frames allow_all_requests = true

-- a frame without a URL is not tested
abbrev pub part_count : Option Part → ℕ
part_count None = 0
part_count (Some part) = 1

-- how many of these frames are tested; they are counted from this place on
abbrev pub frames_tested : List SuffixRule → Rule → Request → ℕ → List Frame → ℕ
frames_tested suffixes rule request place [] = 0
frames_tested suffixes rule request place (frame ∷ frames) =
    part_count (frame_part_of request place frame)
    + (if holds_on_part suffixes rule (frame_part_of request place frame) then 0
    else frames_tested suffixes rule request (place + 1) frames)

abbrev pub parts_tested : List SuffixRule → Rule → Request → ℕ
parts_tested suffixes rule request =
    1 + (if holds suffixes rule (own_part request) then 0
    else (if reaches_by_frames rule.action then frames_tested suffixes rule request 0 request.frames else 0))

-- ---- on one part

-- the rule reaches the request by this part, whether or not it does so by another too
abbrev pub reaches_by : List SuffixRule → Rule → Request → Reach → Bool
reaches_by suffixes rule request Own = holds suffixes rule (own_part request)
reaches_by suffixes rule request (by_frame place) =
    reaches_by_frames rule.action && holds_on_part suffixes rule (frame_part request place)
