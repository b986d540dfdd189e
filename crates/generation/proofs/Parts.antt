-- A rule in force is taken in by the first part by which it reaches the request, and by no part behind that.
use Rattle.std.proofs.Common.{◌≡◌, ℕ, zero, suc, ◌+◌, ◌<◌, List, [], ◌∷◌, Bool, true, false, ◌&&◌, cond, inl, inr, Option, Some, None, is_some, refl, sym, ap, ◌∙◌, subst, arith}
use Rattle.std.specs.Prelude.{slice_get, option_and_then}
use Rattle.std.proofs.lemmas.Bool.{cases_Bool, cases_lt, cond-true, cond-false}
use Rattle.dnr_base.specs.declared.frame.Frame.{Frame}
use Rattle.dnr_base.specs.declared.request.Request.{Request}
use Rattle.dnr_base.specs.declared.verb.Verb.{Verb}
use Rattle.dnr_base.specs.Request.{frame_part, frame_part_of, own_part}
use Rattle.dnr_spec.specs.Order.{beats}
use Rattle.dnr_spec.specs.Suffixes.{SuffixRule}
use Rattle.explain_spec.specs.Explanation.{frame_of}
use Rattle.precedence.proofs.Orders.{beats_is_order}
use Rattle.rule_match.specs.Tested.{reaches_by, reaches_by_frames}
use Rattle.rule_spec.specs.declared.reach.Reach.TheVariants.{Own, Frame as by_frame}
use Rattle.rule_spec.specs.Holds.{holds}
use Rattle.rule_spec.specs.Reaches.{by_first, first_frame, holds_on_part, reach_of, through_frames}
use Rattle.rule_spec.specs.Rule.{Action, Rule, block, redirect, allow, upgrade_scheme, modify_headers, allow_all_requests, verb_of}
use Rattle.rule_spec.specs.Scan.{candidate_of, is_candidate, may_act}
use Rattle.rule_spec.specs.State.{Live}
use Rattle.generation.specs.Hits.{acts_by, part_at, with_part, with_part_of}
use Rattle.generation.specs.Kept.{Found, Kept, better_of, found_by, frame_by, is_stronger, with_candidate, with_deciding, with_live, with_some, with_verb}
use Rattle.generation.proofs.Best.{never_itself}
use Rattle.generation.proofs.Outdone.{deciding_outdone}

and_first : (a b : Bool) → (a && b) ≡ true → a ≡ true
and_first true b h = refl
and_first false b h = h

and_none : (a : Bool) → (a && false) ≡ false
and_none true = refl
and_none false = refl

-- ---- the first number that passes

record Least (test : ℕ → Bool) : Type 0 where
  place : ℕ
  passes : test place ≡ true
  before : (k : ℕ) → k < place → test k ≡ false

module _ (test : ℕ → Bool) where
  one_more : (place : ℕ) → test place ≡ false → ((k : ℕ) → k < place → test k ≡ false) → (k : ℕ) → k < place + 1 → test k ≡ false
  one_more place fails before k less =
      elim (cases_lt k place) [
        | inl lower ↦ before k lower
        | inr upper ↦ let e : place ≡ k = omega (arith, upper, less) in subst (λ (n : ℕ). test n ≡ false) e fails
      ]

  least_from : (left place : ℕ) → ((k : ℕ) → k < place → test k ≡ false) → test (place + left) ≡ true → Least test
  least_from zero place before passes = let e : place + 0 ≡ place = omega arith in record { place = place; passes = subst (λ (n : ℕ). test n ≡ true) e passes; before = before }
  least_from (suc left) place before passes =
      elim (cases_Bool (test place)) [
        | inl here ↦ record { place = place; passes = here; before = before }
        | inr fails ↦
            let e : place + suc left ≡ (place + 1) + left = omega arith in
            least_from left (place + 1) (one_more place fails before) (subst (λ (n : ℕ). test n ≡ true) e passes)
      ]

  least : (place : ℕ) → test place ≡ true → Least test
  least place passes = let e : place ≡ 0 + place = omega arith in least_from place 0 (λ k less. absurd (omega arith)) (subst (λ (n : ℕ). test n ≡ true) e passes)

-- ---- how a rule reaches

module _ (suffixes : List SuffixRule) (request : Request) (rule : Rule) where
  abbrev pub on_frame : ℕ → List Frame → ℕ → Bool
  on_frame place frames k = holds_on_part suffixes rule (option_and_then (frame_part_of request (place + k)) (slice_get frames k))

  frame_found : (frames : List Frame) (place k : ℕ) → ((j : ℕ) → j < k → on_frame place frames j ≡ false) → on_frame place frames k ≡ true → first_frame suffixes rule request place frames ≡ Some (place + k)
  frame_found [] place zero before here = cc
  frame_found [] place (suc k) before here = cc
  frame_found (frame ∷ frames) place zero before here =
      let e : place + 0 ≡ place = omega arith in
      cond-true (holds_on_part suffixes rule (frame_part_of request place frame)) (Some place) (first_frame suffixes rule request (place + 1) frames)
      (subst (λ (n : ℕ). holds_on_part suffixes rule (frame_part_of request n frame) ≡ true) e here)
      ∙ ap (λ (n : ℕ). Some n) (sym e)
  frame_found (frame ∷ frames) place (suc k) before here =
      let e : place + 0 ≡ place = omega arith in
      let next : (j : ℕ) → place + suc j ≡ (place + 1) + j = λ j. omega arith in
      let first : on_frame place (frame ∷ frames) 0 ≡ false = before 0 (omega arith) in
      cond-false (holds_on_part suffixes rule (frame_part_of request place frame)) (Some place) (first_frame suffixes rule request (place + 1) frames)
      (subst (λ (n : ℕ). holds_on_part suffixes rule (frame_part_of request n frame) ≡ false) e first)
      ∙ frame_found frames (place + 1) k
      (λ j less. subst (λ (n : ℕ). holds_on_part suffixes rule (option_and_then (frame_part_of request n) (slice_get frames j)) ≡ false) (next j) (before (suc j) (omega arith)))
      (subst (λ (n : ℕ). holds_on_part suffixes rule (option_and_then (frame_part_of request n) (slice_get frames k)) ≡ true) (next k) here)
      ∙ ap (λ (n : ℕ). Some n) (sym (next k))

  no_frame : (frames : List Frame) (place : ℕ) → ((k : ℕ) → on_frame place frames k ≡ false) → first_frame suffixes rule request place frames ≡ None
  no_frame [] place none = refl
  no_frame (frame ∷ frames) place none =
      let e : place + 0 ≡ place = omega arith in
      let next : (j : ℕ) → place + suc j ≡ (place + 1) + j = λ j. omega arith in
      let first : on_frame place (frame ∷ frames) 0 ≡ false = none 0 in
      cond-false (holds_on_part suffixes rule (frame_part_of request place frame)) (Some place) (first_frame suffixes rule request (place + 1) frames)
      (subst (λ (n : ℕ). holds_on_part suffixes rule (frame_part_of request n frame) ≡ false) e first)
      ∙ no_frame frames (place + 1) (λ j. subst (λ (n : ℕ). holds_on_part suffixes rule (option_and_then (frame_part_of request n) (slice_get frames j)) ≡ false) (next j) (none (suc j)))

  abbrev by_action : Action → ℕ → Bool
  by_action action k = reaches_by_frames action && holds_on_part suffixes rule (frame_part request k)

  from_zero : (k : ℕ) (b : Bool) → holds_on_part suffixes rule (frame_part request k) ≡ b → on_frame 0 request.frames k ≡ b
  from_zero k b h = let e : k ≡ 0 + k = omega arith in subst (λ (n : ℕ). holds_on_part suffixes rule (option_and_then (frame_part_of request n) (slice_get request.frames k)) ≡ b) e h

  through : (action : Action) (k : ℕ) → by_action action k ≡ true → ((j : ℕ) → j < k → by_action action j ≡ false) → through_frames suffixes rule request action ≡ Some (by_frame k)
  through block k here before = cc
  through (redirect target) k here before = cc
  through allow k here before = cc
  through upgrade_scheme k here before = cc
  through (modify_headers first second) k here before = cc
  through allow_all_requests k here before =
      let e : 0 + k ≡ k = omega arith in
      ap by_first (frame_found request.frames 0 k (λ j less. from_zero j false (before j less)) (from_zero k true here))
      ∙ ap (λ (n : ℕ). Some (by_frame n)) e

  not_through : (action : Action) → ((k : ℕ) → by_action action k ≡ false) → through_frames suffixes rule request action ≡ None
  not_through block none = refl
  not_through (redirect target) none = refl
  not_through allow none = refl
  not_through upgrade_scheme none = refl
  not_through (modify_headers first second) none = refl
  not_through allow_all_requests none = ap by_first (no_frame request.frames 0 (λ k. from_zero k false (none k)))

  abbrev pub by_part : ℕ → Bool
  by_part part = reaches_by suffixes rule request (part_at part)

  reached_first : (part : ℕ) → by_part part ≡ true → ((before : ℕ) → before < part → by_part before ≡ false) → reach_of suffixes rule request ≡ Some (part_at part)
  reached_first zero here before = cond-true (holds suffixes rule (own_part request)) (Some Own) (through_frames suffixes rule request rule.action) here
  reached_first (suc place) here before =
      cond-false (holds suffixes rule (own_part request)) (Some Own) (through_frames suffixes rule request rule.action) (before 0 (omega arith))
      ∙ through rule.action place here (λ j less. before (suc j) (omega arith))

  not_reached : ((part : ℕ) → by_part part ≡ false) → reach_of suffixes rule request ≡ None
  not_reached none =
      cond-false (holds suffixes rule (own_part request)) (Some Own) (through_frames suffixes rule request rule.action) (none 0)
      ∙ not_through rule.action (λ k. none (suc k))

  pub reached : (part : ℕ) → by_part part ≡ true → is_some (reach_of suffixes rule request) ≡ true
  reached part here = let first = least by_part part here in ap is_some (reached_first first.place first.passes first.before)

-- ---- what is kept

is_not_stronger : (live : Live) (verb : Verb) (frame other : Option ℕ) → is_stronger (found_by live verb other) (found_by live verb frame) ≡ false
is_not_stronger live verb frame other = never_itself beats beats_is_order (candidate_of live verb)

record Settled (kept : Kept) (live : Live) (verb : Verb) (other : Option ℕ) : Type 0 where
  best : Found
  is : kept.best ≡ Some best
  stays : is_stronger (found_by live verb other) best ≡ false

better_settled : (start : Option Found) (live : Live) (verb : Verb) (frame other : Option ℕ) → (best : Found) × (better_of is_stronger start (found_by live verb frame) ≡ Some best) × (is_stronger (found_by live verb other) best ≡ false)
better_settled None live verb frame other = (found_by live verb frame, refl, is_not_stronger live verb frame other)
better_settled (Some old) live verb frame other =
    elim (cases_Bool (is_stronger (found_by live verb frame) old)) [
      | inl wins ↦ (found_by live verb frame, cond-true (is_stronger (found_by live verb frame) old) (Some (found_by live verb frame)) (Some old) wins, is_not_stronger live verb frame other)
      | inr loses ↦ (old, cond-false (is_stronger (found_by live verb frame) old) (Some (found_by live verb frame)) (Some old) loses, loses)
    ]

-- a candidate that was taken in is not taken in again
twice_deciding : (kept : Kept) (live : Live) (verb : Verb) (frame other : Option ℕ) → with_deciding (with_deciding kept live verb frame) live verb other ≡ with_deciding kept live verb frame
twice_deciding kept live verb frame other =
    let more = with_deciding kept live verb frame in
    let settled = better_settled kept.best live verb frame other in
    deciding_outdone more live verb settled.0 settled.1 (omega arith) other settled.2

twice_framed : (action : Action) (kept : Kept) (live : Live) (frame other : Option ℕ) → reaches_by_frames action ≡ true
    → with_verb (verb_of action) (with_verb (verb_of action) kept live frame) live other ≡ with_verb (verb_of action) kept live frame
twice_framed block kept live frame other h = cc
twice_framed (redirect target) kept live frame other h = cc
twice_framed allow kept live frame other h = cc
twice_framed upgrade_scheme kept live frame other h = cc
twice_framed (modify_headers first second) kept live frame other h = cc
twice_framed allow_all_requests kept live frame other h = twice_deciding kept live _ frame other

-- ---- by the parts in turn

module _ (suffixes : List SuffixRule) (request : Request) where
  -- a rule in force reaches the request by this part
  abbrev pub reaches_there : Option Live → ℕ → Bool
  reaches_there None part = false
  reaches_there (Some live) part = by_part suffixes request live.rule part

  pub passed_by : (o : Option Live) (kept : Kept) (part : ℕ) → reaches_there o part ≡ false → with_part_of suffixes request (part_at part) kept o ≡ kept
  passed_by None kept part fails = refl
  passed_by (Some live) kept part fails =
      cond-false (acts_by suffixes request (part_at part) kept live.rule) (with_candidate kept live (frame_of (Some (part_at part)))) kept
      (ap (λ b. b && may_act kept.name kept.access live.rule live.rule.action request.view) fails)

  pub left_out : (o : Option Live) (kept : Kept) → ((part : ℕ) → reaches_there o part ≡ false) → with_some suffixes request kept o ≡ kept
  left_out None kept none = refl
  left_out (Some live) kept none =
      cond-false (is_candidate suffixes kept.name kept.access request live.rule) (with_candidate kept live (frame_by suffixes request live)) kept
      (ap (λ r. is_some r && may_act kept.name kept.access live.rule live.rule.action request.view) (not_reached suffixes request live.rule none))

  pub taken_first : (o : Option Live) (kept : Kept) (part : ℕ) → reaches_there o part ≡ true → ((before : ℕ) → before < part → reaches_there o before ≡ false) → with_part_of suffixes request (part_at part) kept o ≡ with_some suffixes request kept o
  taken_first None kept part here before = cc
  taken_first (Some live) kept part here before =
      let acts = may_act kept.name kept.access live.rule live.rule.action request.view in
      ap (λ b. cond (b && acts) (with_candidate kept live (frame_of (Some (part_at part)))) kept) here
      ∙ ap (λ r. cond (is_some r && acts) (with_candidate kept live (frame_of r)) kept) (sym (reached_first suffixes request live.rule part here before))

  framed : (live : Live) (part first : ℕ) → first < part → by_part suffixes request live.rule part ≡ true → reaches_by_frames live.rule.action ≡ true
  framed live zero first less here = absurd (omega (arith, less))
  framed live (suc place) first less here = and_first (reaches_by_frames live.rule.action) (holds_on_part suffixes live.rule (frame_part request place)) here

  again_case : (b : Bool) (kept new : Kept) → (b ≡ true → new ≡ kept) → cond b new kept ≡ kept
  again_case true kept new h = h refl
  again_case false kept new h = refl

  -- what is kept with a candidate stays so by its further parts
  stays_with : (live : Live) (kept : Kept) (first part : ℕ) → first < part → with_part suffixes request (part_at part) (with_candidate kept live (frame_by suffixes request live)) live ≡ with_candidate kept live (frame_by suffixes request live)
  stays_with live kept first part less =
      let more = with_candidate kept live (frame_by suffixes request live) in
      again_case (acts_by suffixes request (part_at part) more live.rule) more (with_candidate more live (frame_of (Some (part_at part))))
      (λ acts. twice_framed live.rule.action kept live (frame_by suffixes request live) (frame_of (Some (part_at part)))
      (framed live part first less (and_first (by_part suffixes request live.rule part) (may_act more.name more.access live.rule live.rule.action request.view) acts)))

  -- so does what is kept where the rule may not act
  stays_without : (live : Live) (kept : Kept) (part : ℕ) → may_act kept.name kept.access live.rule live.rule.action request.view ≡ false → with_part suffixes request (part_at part) kept live ≡ kept
  stays_without live kept part fails =
      cond-false (acts_by suffixes request (part_at part) kept live.rule) (with_candidate kept live (frame_of (Some (part_at part)))) kept
      (ap (λ b. by_part suffixes request live.rule part && b) fails ∙ and_none (by_part suffixes request live.rule part))

  pub taken_once : (o : Option Live) (kept : Kept) (first part : ℕ) → reaches_there o first ≡ true → first < part → with_part_of suffixes request (part_at part) (with_some suffixes request kept o) o ≡ with_some suffixes request kept o
  taken_once None kept first part here less = refl
  taken_once (Some live) kept first part here less =
      let acts = may_act kept.name kept.access live.rule live.rule.action request.view in
      let more = with_candidate kept live (frame_by suffixes request live) in
      let candidate : is_candidate suffixes kept.name kept.access request live.rule ≡ acts = ap (λ b. b && acts) (reached suffixes request live.rule first here) in
      elim (cases_Bool acts) [
        | inl may ↦
            let is : with_live suffixes request kept live ≡ more = cond-true (is_candidate suffixes kept.name kept.access request live.rule) more kept (candidate ∙ may) in
            subst (λ (k : Kept). with_part suffixes request (part_at part) k live ≡ k) (sym is) (stays_with live kept first part less)
        | inr may_not ↦
            let is : with_live suffixes request kept live ≡ kept = cond-false (is_candidate suffixes kept.name kept.access request live.rule) more kept (candidate ∙ may_not) in
            subst (λ (k : Kept). with_part suffixes request (part_at part) k live ≡ k) (sym is) (stays_without live kept part may_not)
      ]
