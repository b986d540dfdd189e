-- Rules that may reach a request, as hits: the place of a rule in its list, and the part by which it may reach.
use Rattle.std.specs.Prelude.{ℕ, zero, suc, ◌≡◌, ◌+◌, ◌≤◌, List, [], ◌∷◌, ◌++◌, length, map, option_to_list, Bool, true, ◌&&◌, Option, Some, None, slice_get, if◌then◌else◌}
use Rattle.std.specs.List.{Contains, flat_map, sum_by}
use Rattle.std.specs.List.Sorted.{IsStrictlySortedBy}
use Rattle.std.specs.Ordering.{nat_cmp, ordering_then}
use Rattle.std.specs.declared.cmp.Ordering.{Ordering}
use Rattle.dnr_base.specs.declared.frame.Frame.{Frame}
use Rattle.dnr_base.specs.declared.request.Request.{Request}
use Rattle.dnr_base.specs.Request.{Part, frame_part_of, own_part}
use Rattle.dnr_spec.specs.Suffixes.{SuffixRule}
use Rattle.explain_spec.specs.Explanation.{frame_of}
use Rattle.index_spec.specs.Pairs.{pairs_of_rules, shared}
use Rattle.rule_index.specs.Index.{Index, candidates}
use Rattle.rule_index.specs.Lists.{for_frames, placed}
use Rattle.rule_match.specs.Tested.{reaches_by}
use Rattle.rule_spec.specs.declared.reach.Reach.{Reach}
use Rattle.rule_spec.specs.declared.reach.Reach.TheVariants.{Own, Frame as by_frame}
use Rattle.rule_spec.specs.Rule.{Rule}
use Rattle.rule_spec.specs.Scan.{may_act}
use Rattle.rule_spec.specs.State.{Extension, Live, live_rules}
use Rattle.generation.specs.declared.block.Block.{Block}
use Rattle.generation.specs.Block.{live_there}
use Rattle.generation.specs.Kept.{Kept, with_candidate}

-- the request itself, and behind it its frames
abbrev pub part_at : ℕ → Reach
part_at zero = Own
part_at (suc place) = by_frame place

-- first by the place, then by the part
abbrev pub hit_cmp : ℕ × ℕ → ℕ × ℕ → Ordering
hit_cmp x y = ordering_then (nat_cmp x.0 y.0) (nat_cmp x.1 y.1)

-- ---- how many there are

-- the rules of a list, each as often as it shares a key with the part, by what their places weigh
abbrev pub weight_on : (ℕ → ℕ) → List (ℕ × Rule) → Part → ℕ
weight_on weight rules part = sum_by (λ one. sum_by (λ key. weight one.0) (shared one.1 part)) rules

abbrev pub weight_on_some : (ℕ → ℕ) → List (ℕ × Rule) → Option Part → ℕ
weight_on_some weight rules None = 0
weight_on_some weight rules (Some part) = weight_on weight rules part

-- the frames are counted from this place on
abbrev pub weight_on_frames : (ℕ → ℕ) → List (ℕ × Rule) → Request → ℕ → List Frame → ℕ
weight_on_frames weight rules request place [] = 0
weight_on_frames weight rules request place (frame ∷ frames) =
    weight_on_some weight rules (frame_part_of request place frame) + weight_on_frames weight rules request (place + 1) frames

abbrev pub weight_of : (ℕ → ℕ) → List Rule → Request → ℕ
weight_of weight rules request =
    weight_on weight (placed rules) (own_part request) + weight_on_frames weight (for_frames (placed rules)) request 0 request.frames

-- The hits stand in order, none twice, and each rule that reaches by a part is among them. Whatever places weigh, the hits
-- weigh no more than the keys that the rules share with the request.
pub record AreHits (rules : List Rule) (request : Request) (hits : List (ℕ × ℕ)) : Type 0 where
  pub sorted : IsStrictlySortedBy hit_cmp hits
  pub all : (suffixes : List SuffixRule) (place part : ℕ) (rule : Rule)
      → slice_get rules place ≡ Some rule → reaches_by suffixes rule request (part_at part) ≡ true → Contains hits (place, part)
  pub few : (weight : ℕ → ℕ) → sum_by (λ hit. weight hit.0) hits ≤ weight_of weight rules request

-- ---- what an index gives

abbrev pub hits_by : List ℕ → ℕ → List (ℕ × ℕ)
hits_by places part = map (λ place. (place, part)) places

abbrev pub hits_on : Index → ℕ → Option Part → List (ℕ × ℕ)
hits_on index number None = []
hits_on index number (Some part) = hits_by (candidates index part) number

-- those of frames, of which the first has this place
abbrev pub frame_hits : Index → Request → ℕ → List Frame → List (ℕ × ℕ)
frame_hits index request place [] = []
frame_hits index request place (frame ∷ frames) =
    hits_on index (place + 1) (frame_part_of request place frame) ++ frame_hits index request (place + 1) frames

-- ---- what is kept with them

-- the rule reaches the request by this part and may act on it
abbrev pub acts_by : List SuffixRule → Request → Reach → Kept → Rule → Bool
acts_by suffixes request part kept rule =
    reaches_by suffixes rule request part && may_act kept.name kept.access rule rule.action request.view

-- one more rule in force, if it acts by this part
abbrev pub with_part : List SuffixRule → Request → Reach → Kept → Live → Kept
with_part suffixes request part kept live =
    if acts_by suffixes request part kept live.rule then with_candidate kept live (frame_of (Some part)) else kept

abbrev pub with_part_of : List SuffixRule → Request → Reach → Kept → Option Live → Kept
with_part_of suffixes request part kept None = kept
with_part_of suffixes request part kept (Some live) = with_part suffixes request part kept live

abbrev pub with_hit : List SuffixRule → Request → Block → Kept → ℕ × ℕ → Kept
with_hit suffixes request block kept hit = with_part_of suffixes request (part_at hit.1) kept (live_there block hit.0)

-- 1 where a rule in force stands at the hit's place
abbrev pub live_count : Block → ℕ × ℕ → ℕ
live_count block hit = length (option_to_list (live_there block hit.0))

-- the keys that rules in force share with the request, counted for each rule and part
abbrev pub pairs_by : List Live → Request → ℕ
pairs_by lives request = pairs_of_rules (map (λ live. live.rule) lives) request

abbrev pub pairs_in : List Extension → Request → ℕ
pairs_in extensions request = pairs_of_rules (flat_map (λ extension. map (λ live. live.rule) (live_rules extension)) extensions) request
