-- How a rule reaches a request: Chrome's reference, `allowAllRequests`, which holds for a whole hierarchy of frames.
use Rattle.std.specs.Prelude.{ℕ, ◌+◌, List, [], ◌∷◌, Bool, false, Option, Some, None, if◌then◌else◌}
use Rattle.dnr_base.specs.declared.frame.Frame.{Frame}
use Rattle.dnr_base.specs.declared.request.Request.{Request}
use Rattle.dnr_base.specs.Request.{Part, own_part, frame_part_of}
use Rattle.dnr_spec.specs.Suffixes.{SuffixRule}
use Rattle.rule_spec.specs.declared.reach.Reach.{Reach}
use Rattle.rule_spec.specs.declared.reach.Reach.TheVariants.{Own, Frame as by_frame}
use Rattle.rule_spec.specs.Rule.{Action, block, redirect, allow, upgrade_scheme, modify_headers, allow_all_requests, Rule}
use Rattle.rule_spec.specs.Holds.{holds}

-- the rule holds on a frame, if that has a URL
abbrev pub holds_on_part : List SuffixRule → Rule → Option Part → Bool
holds_on_part suffixes rule None = false
holds_on_part suffixes rule (Some part) = holds suffixes rule part

-- the first of the frames on which the rule holds, the outermost first; they are counted from this place on
abbrev pub first_frame : List SuffixRule → Rule → Request → ℕ → List Frame → Option ℕ
first_frame suffixes rule request place [] = None
first_frame suffixes rule request place (frame ∷ frames) =
    if holds_on_part suffixes rule (frame_part_of request place frame) then Some place
    else first_frame suffixes rule request (place + 1) frames

abbrev pub by_first : Option ℕ → Option Reach
by_first None = None
by_first (Some place) = Some (by_frame place)

-- by a frame only `allowAllRequests` reaches
abbrev pub through_frames : List SuffixRule → Rule → Request → Action → Option Reach
through_frames suffixes rule request block = None
through_frames suffixes rule request (redirect target) = None
through_frames suffixes rule request allow = None
through_frames suffixes rule request upgrade_scheme = None
through_frames suffixes rule request (modify_headers first second) = None
through_frames suffixes rule request allow_all_requests = by_first (first_frame suffixes rule request 0 request.frames)

-- by the request itself, or else through its first frame on which the rule holds
abbrev pub reach_of : List SuffixRule → Rule → Request → Option Reach
reach_of suffixes rule request =
    if holds suffixes rule (own_part request) then Some Own else through_frames suffixes rule request rule.action
