-- Which hits an index gives.
use Rattle.std.proofs.Common.{◌≡◌, ℕ, zero, suc, ◌+◌, ◌<◌, ◌≤◌, List, [], ◌∷◌, ◌++◌, length, drop, Bool, true, false, ◌&&◌, inl, inr, Option, Some, None, refl, sym, ap, ◌∙◌, subst, arith, append_assoc}
use Rattle.std.specs.Prelude.{IfSome, option_and_then, slice_get}
use Rattle.std.specs.List.{Contains, sum_by}
use Rattle.std.specs.List.Sorted.{IsStrictlySortedBy}
use Rattle.std.proofs.lemmas.List.{drop_more}
use Rattle.std.proofs.lemmas.Option.{slice_get_cases}
use Rattle.std.proofs.lemmas.List.Elements.{Contains-append_left, Contains-append_right}
use Rattle.dnr_base.specs.declared.frame.Frame.{Frame}
use Rattle.dnr_base.specs.declared.request.Request.{Request}
use Rattle.dnr_base.specs.Request.{Part, frame_part, frame_part_of, own_part}
use Rattle.dnr_base.specs.View.{IsView}
use Rattle.dnr_spec.specs.Suffixes.{SuffixRule}
use Rattle.index_spec.specs.Pairs.{is_for_frames}
use Rattle.rule_index.specs.Index.{Index, candidates, near}
use Rattle.rule_index.specs.Lists.{IsListIndexOf, ListIndex}
use Rattle.rule_index.specs.Needs.{shown_by}
use Rattle.rule_index.proofs.Found.{holders_are_found, holders_are_near}
use Rattle.rule_match.specs.Tested.{reaches_by, reaches_by_frames}
use Rattle.rule_spec.specs.Holds.{holds}
use Rattle.rule_spec.specs.Reaches.{holds_on_part}
use Rattle.rule_spec.specs.Rule.{Action, Rule, block, redirect, allow, upgrade_scheme, modify_headers, allow_all_requests}
use Rattle.generation.specs.Hits.{AreHits, frame_hits, hit_cmp, hits_by, hits_on, part_at, weight_of}
use Rattle.generation.proofs.Pairs.{all_weigh}

-- ---- lists of hits

pub by_each : (hits : List (ℕ × ℕ)) (place : ℕ) (places : List ℕ) (part : ℕ) → (hits ++ (place, part) ∷ []) ++ hits_by places part ≡ hits ++ hits_by (place ∷ places) part
by_each hits place places part = append_assoc hits ((place, part) ∷ []) (hits_by places part)

hit_of : (places : List ℕ) (place part : ℕ) → Contains places place → Contains (hits_by places part) (place, part)
hit_of [] place part has = absurd (let within = has.1 in omega arith)
hit_of (own ∷ places) place part (zero, within, is) = (0, omega arith, ap (λ (n : ℕ). (n, part)) is)
hit_of (own ∷ places) place part (suc k, within, is) =
    let there = hit_of places place part (k, omega (arith, within), is) in
    let inside = there.1 in
    (suc there.0, omega (arith, inside), there.2)

frames_each : (index : Index) (request : Request) (hits : List (ℕ × ℕ)) (place : ℕ) (frame : Frame) → place < length request.frames → slice_get request.frames place ≡ Some frame → drop place request.frames ≡ frame ∷ drop (place + 1) request.frames
    → hits ++ frame_hits index request place (drop place request.frames) ≡ (hits ++ hits_on index (place + 1) (frame_part request place)) ++ frame_hits index request (place + 1) (drop (place + 1) request.frames)
frames_each index request hits place frame within is cut =
    ap (λ frames. hits ++ frame_hits index request place frames) cut
    ∙ sym (append_assoc hits (hits_on index (place + 1) (frame_part_of request place frame)) (frame_hits index request (place + 1) (drop (place + 1) request.frames)))
    ∙ ap (λ o. (hits ++ hits_on index (place + 1) (option_and_then (frame_part_of request place) o)) ++ frame_hits index request (place + 1) (drop (place + 1) request.frames)) (sym is)

-- the frames from a place on, by the one that stands there
pub frames_step : (index : Index) (request : Request) (hits : List (ℕ × ℕ)) (place : ℕ) → place < length request.frames
    → hits ++ frame_hits index request place (drop place request.frames) ≡ (hits ++ hits_on index (place + 1) (frame_part request place)) ++ frame_hits index request (place + 1) (drop (place + 1) request.frames)
frames_step index request hits place within =
    elim (slice_get_cases request.frames place).1 [
      | inl here ↦ frames_each index request hits place here.0 within here.2
          (drop_more request.frames place here.0 within ∙ ap (λ f. f ∷ drop (place + 1) request.frames) here.3)
      | inr past ↦ absurd (let over = past.0 in omega (arith, within))
    ]

-- ---- what is among them

frame_there : (index : Index) (request : Request) (frames : List Frame) (first k : ℕ) (part : Part) (place : ℕ)
    → option_and_then (frame_part_of request (first + k)) (slice_get frames k) ≡ Some part → Contains (candidates index part) place
    → Contains (frame_hits index request first frames) (place, first + k + 1)
frame_there index request [] first zero part place is has = cc
frame_there index request [] first (suc k) part place is has = cc
frame_there index request (frame ∷ frames) first zero part place is has =
    let e : first + 0 ≡ first = omega arith in
    let there : frame_part_of request first frame ≡ Some part = subst (λ (n : ℕ). frame_part_of request n frame ≡ Some part) e is in
    Contains-append_left (hits_on index (first + 1) (frame_part_of request first frame)) (frame_hits index request (first + 1) frames) (place, first + 0 + 1)
    (subst (λ (n : ℕ). Contains (hits_on index (first + 1) (frame_part_of request first frame)) (place, n + 1)) (sym e)
    (subst (λ o. Contains (hits_on index (first + 1) o) (place, first + 1)) (sym there) (hit_of (candidates index part) place (first + 1) has)))
frame_there index request (frame ∷ frames) first (suc k) part place is has =
    let e : first + suc k ≡ (first + 1) + k = omega arith in
    Contains-append_right (hits_on index (first + 1) (frame_part_of request first frame)) (frame_hits index request (first + 1) frames) (place, first + suc k + 1)
    (subst (λ (n : ℕ). Contains (frame_hits index request (first + 1) frames) (place, n + 1)) (sym e)
    (frame_there index request frames (first + 1) k part place (subst (λ (n : ℕ). option_and_then (frame_part_of request n) (slice_get frames k) ≡ Some part) e is) has))

framed : (action : Action) → reaches_by_frames action ≡ true → is_for_frames action ≡ true
framed block h = cc
framed (redirect target) h = cc
framed allow h = cc
framed upgrade_scheme h = cc
framed (modify_headers first second) h = cc
framed allow_all_requests h = refl

-- the frame's part on which the rule holds
record HoldsOn (suffixes : List SuffixRule) (rule : Rule) (o : Option Part) : Type 0 where
  part : Part
  is : o ≡ Some part
  so : holds suffixes rule part ≡ true

holds_on : (suffixes : List SuffixRule) (rule : Rule) (o : Option Part) → holds_on_part suffixes rule o ≡ true → HoldsOn suffixes rule o
holds_on suffixes rule None h = cc
holds_on suffixes rule (Some part) h = record { part = part; is = refl; so = h }

both : (a b : Bool) → (a && b) ≡ true → (a ≡ true) × (b ≡ true)
both true true h = (refl, refl)
both true false h = cc
both false b h = cc

is_viewed : (o : Option Part) (part : Part) → o ≡ Some part → IfSome o (λ p. IsView p.view) → IsView part.view
is_viewed o part is view = subst (λ (x : Option Part). IfSome x (λ p. IsView p.view)) is view

within_frames : (request : Request) (place : ℕ) (part : Part) → frame_part request place ≡ Some part → place < length request.frames
within_frames request place part is = go request.frames place is
  where
    go : (frames : List Frame) (k : ℕ) → option_and_then (frame_part_of request place) (slice_get frames k) ≡ Some part → k < length frames
    go [] zero is = cc
    go [] (suc k) is = cc
    go (frame ∷ frames) zero is = omega arith
    go (frame ∷ frames) (suc k) is = let h = go frames k is in omega (arith, h)

-- the hits of the own part and of the frames have each rule that reaches
pub all_there : (rules : List Rule) (index : ListIndex) (request : Request) (suffixes : List SuffixRule) (place part : ℕ) (rule : Rule)
    → IsListIndexOf rules index → IsView request.view → ((n : ℕ) → n < length request.frames → IfSome (frame_part request n) (λ p. IsView p.view))
    → slice_get rules place ≡ Some rule → reaches_by suffixes rule request (part_at part) ≡ true
    → Contains (hits_by (near index.whole (Some (shown_by (own_part request))) (own_part request)) 0 ++ frame_hits index.framing request 0 request.frames) (place, part)
all_there rules index request suffixes place zero rule is_index view views there reaches =
    let own = near index.whole (Some (shown_by (own_part request))) (own_part request) in
    Contains-append_left (hits_by own 0) (frame_hits index.framing request 0 request.frames) (place, 0)
    (hit_of own place 0 (holders_are_near suffixes rules index (own_part request) place rule is_index there view reaches).0)
all_there rules index request suffixes place (suc n) rule is_index view views there reaches =
    let own = near index.whole (Some (shown_by (own_part request))) (own_part request) in
    let two = both (reaches_by_frames rule.action) (holds_on_part suffixes rule (frame_part request n)) reaches in
    let on = holds_on suffixes rule (frame_part request n) two.1 in
    let part_view = is_viewed (frame_part request n) on.part on.is (views n (within_frames request n on.part on.is)) in
    let has = (holders_are_found suffixes rules index on.part place rule is_index there part_view on.so).1 (framed rule.action two.0) in
    let e : n ≡ 0 + n = omega arith in
    let f : 0 + n + 1 ≡ suc n = omega arith in
    Contains-append_right (hits_by own 0) (frame_hits index.framing request 0 request.frames) (place, suc n)
    (subst (λ (k : ℕ). Contains (frame_hits index.framing request 0 request.frames) (place, k)) f
    (frame_there index.framing request request.frames 0 n on.part place (subst (λ (k : ℕ). option_and_then (frame_part_of request k) (slice_get request.frames n) ≡ Some on.part) e on.is) has))

few_found : (rules : List Rule) (index : ListIndex) (request : Request) (found hits : List (ℕ × ℕ)) (weight : ℕ → ℕ)
    → IsListIndexOf rules index
    → found ≡ hits_by (near index.whole (Some (shown_by (own_part request))) (own_part request)) 0 ++ frame_hits index.framing request 0 request.frames
    → ((w : ℕ × ℕ → ℕ) → sum_by w hits ≤ sum_by w found)
    → sum_by (λ hit. weight hit.0) hits ≤ weight_of weight rules request
few_found rules index request found hits weight is_index are few =
    let a = few (λ hit. weight hit.0) in
    let b = ap (sum_by (λ (hit : ℕ × ℕ). weight hit.0)) are in
    let d = all_weigh weight (Some (shown_by (own_part request))) rules index request is_index in
    omega (arith, a, b, d)

pub hits_found : (rules : List Rule) (index : ListIndex) (request : Request) (found hits : List (ℕ × ℕ))
    → IsListIndexOf rules index → IsView request.view → ((n : ℕ) → n < length request.frames → IfSome (frame_part request n) (λ p. IsView p.view))
    → found ≡ hits_by (near index.whole (Some (shown_by (own_part request))) (own_part request)) 0 ++ frame_hits index.framing request 0 request.frames
    → IsStrictlySortedBy hit_cmp hits → ((hit : ℕ × ℕ) → Contains found hit → Contains hits hit)
    → ((weight : ℕ × ℕ → ℕ) → sum_by weight hits ≤ sum_by weight found)
    → AreHits rules request hits
hits_found rules index request found hits is_index view views are sorted all few = record {
  sorted = sorted;
  all = λ suffixes place part rule there reaches. all (place, part)
      (subst (λ (l : List (ℕ × ℕ)). Contains l (place, part)) (sym are) (all_there rules index request suffixes place part rule is_index view views there reaches));
  few = λ weight. few_found rules index request found hits weight is_index are few;
}
