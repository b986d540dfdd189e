-- How many keys are shared, which bounds how many rules are tested.
use Rattle.std.specs.Prelude.{ℕ, ◌+◌, List, [], ◌∷◌, ◌++◌, length, map, filter, sum_by, Bool, true, false, Option, Some, None, if◌then◌else◌}
use Rattle.std.specs.List.{flat_map}
use Rattle.dnr_base.specs.declared.frame.Frame.{Frame}
use Rattle.dnr_base.specs.declared.request.Request.{Request}
use Rattle.dnr_base.specs.Request.{Part, own_part, frame_part_of}
use Rattle.rule_spec.specs.Rule.{Action, block, redirect, allow, upgrade_scheme, modify_headers, allow_all_requests, Rule}
use Rattle.rule_spec.specs.State.{State, live_rules}
use Rattle.index_spec.specs.declared.key.Key.{Key}
use Rattle.index_spec.specs.Keys.{has_key, keys_of_rule, keys_of_part}

-- each key of a list where it stands first, when these stood before
abbrev pub once_behind : List Key → List Key → List Key
once_behind before [] = []
once_behind before (key ∷ keys) = (if has_key before key then [] else key ∷ []) ++ once_behind (before ++ key ∷ []) keys

abbrev pub once : List Key → List Key
once keys = once_behind [] keys

-- the keys that a rule and a part have, each once
abbrev pub shared : Rule → Part → List Key
shared rule part = filter (has_key (keys_of_part part)) (once (keys_of_rule rule))

abbrev pub pairs_on : List Rule → Part → ℕ
pairs_on rules part = sum_by (λ rule. length (shared rule part)) rules

-- ---- of a request

-- only such a rule reaches what is asked for in a frame
abbrev pub is_for_frames : Action → Bool
is_for_frames block = false
is_for_frames (redirect target) = false
is_for_frames allow = false
is_for_frames upgrade_scheme = false
is_for_frames (modify_headers first second) = false
is_for_frames allow_all_requests = true

abbrev pub rules_for_frames : List Rule → List Rule
rules_for_frames rules = filter (λ rule. is_for_frames rule.action) rules

abbrev pub pairs_on_some : List Rule → Option Part → ℕ
pairs_on_some rules None = 0
pairs_on_some rules (Some part) = pairs_on rules part

-- the frames are counted from this place on
abbrev pub pairs_on_frames : List Rule → Request → ℕ → List Frame → ℕ
pairs_on_frames rules request place [] = 0
pairs_on_frames rules request place (frame ∷ frames) =
    pairs_on_some rules (frame_part_of request place frame) + pairs_on_frames rules request (place + 1) frames

-- the pairs of a rule and a key that it shares with the request itself, and of a rule for frames and a key that it
-- shares with a frame that has a URL, added over these frames
abbrev pub pairs_of_rules : List Rule → Request → ℕ
pairs_of_rules rules request =
    pairs_on rules (own_part request) + pairs_on_frames (rules_for_frames rules) request 0 request.frames

-- those of the rules that are live
abbrev pub rules_in : State → List Rule
rules_in state = flat_map (λ extension. map (λ live. live.rule) (live_rules extension)) state.extensions

abbrev pub pairs_of : State → Request → ℕ
pairs_of state request = pairs_of_rules (rules_in state) request
