-- A rule that another shadows is outdone by it.
use Rattle.std.proofs.Common.{◌≡◌, ℕ, ◌+◌, ◌≤◌, List, [], ◌∷◌, Bool, true, false, cond, not, ◌==◌, Option, Some, None, refl, sym, ap, ◌∙◌}
use Rattle.std.specs.Prelude.{is_some, nat_le, option_map, IfSome}
use Rattle.std.specs.List.{AllByRecursion}
use Rattle.std.specs.Option.{option_eq}
use Rattle.std.proofs.lemmas.Bool.{and_parts, and_from, not-true, eqb-true, leb-true, true≢false}
use Rattle.dnr_base.specs.declared.frame.Frame.{Frame}
use Rattle.dnr_base.specs.declared.request.Request.{Request}
use Rattle.dnr_base.specs.Request.{Part, own_part, frame_part_at, frame_part_of}
use Rattle.dnr_base.specs.View.{View, IsView}
use Rattle.dnr_spec.specs.Suffixes.{SuffixRule}
use Rattle.rule_spec.specs.declared.reach.Reach.TheVariants.{Own}
use Rattle.rule_spec.specs.Rule.{Action, block, redirect, allow, upgrade_scheme, modify_headers, allow_all_requests, verb_of, is_unsafe, Rule}
use Rattle.rule_spec.specs.IsRule.{IsRule}
use Rattle.rule_spec.specs.Holds.{holds}
use Rattle.rule_spec.specs.Reaches.{holds_on_part, first_frame, by_first, through_frames, reach_of}
use Rattle.rule_spec.specs.Scan.{may_act}
use Rattle.prune_spec.specs.Shadows.{asks_less, same_verb, same_safe_action, shadows}
use Rattle.compile_laws.specs.Origins.{HasViews}
use Rattle.prune_laws.specs.Laws.{ShadowsHoldWider}
use Rattle.compile_laws.proofs.Lists.{each_of_all}
use Rattle.prune_laws.proofs.Wider.{options_are, holds_wider}
use Rattle.prune_laws.proofs.Single.{same_action, same_verb_is, Outdoes}

-- what is said by `shadows`
pub record Shadowing (k s : Rule) : Type 0 where
  pub action : k.action ≡ s.action
  pub safe : is_unsafe s.action ≡ false
  pub priority : s.priority ≤ k.priority
  pub less : asks_less k.condition s.condition ≡ true

pub shadowing : (k s : Rule) → shadows k s ≡ true → Shadowing k s
shadowing k s h =
    let a = and_parts _ (asks_less k.condition s.condition) h in
    let b = and_parts _ (nat_le s.priority k.priority) a.0 in
    let c = and_parts (not (k.id == s.id)) (same_safe_action k.action s.action) b.0 in
    let d = and_parts _ (option_eq same_verb (verb_of k.action) (verb_of s.action)) c.1 in
    let e = and_parts (not (is_unsafe k.action)) (not (is_unsafe s.action)) d.0 in
    let safe = not-true (is_unsafe s.action) e.1 in
    let verbs = options_are same_verb (λ one other same. same_verb_is one other (eqb-true _ _ same)) (verb_of k.action) (verb_of s.action) d.1 in
    record { action = same_action k.action s.action safe verbs; safe = safe; priority = leb-true s.priority k.priority b.1; less = a.1 }

pub shadows_hold_wider : ShadowsHoldWider
shadows_hold_wider suffixes k s part view rule h = holds_wider suffixes part view k.condition s.condition rule.condition.one_filter (shadowing k s h).less

-- ---- how they reach a request

then_some : {X : Type 0} (b c : Bool) (x y : X) (o r : Option X) → (b ≡ true → c ≡ true) → (is_some o ≡ true → is_some r ≡ true) → is_some (cond b (Some x) o) ≡ true → is_some (cond c (Some y) r) ≡ true
then_some true true x y o r f g h = refl
then_some true false x y o r f g h = absurd (true≢false (sym (f refl)))
then_some false true x y o r f g h = refl
then_some false false x y o r f g h = g h

by_first_some : (o : Option ℕ) → is_some (by_first o) ≡ is_some o
by_first_some None = refl
by_first_some (Some place) = refl

acts_alike : (name : List ℕ) (access : Bool) (one other : Rule) (action : Action) (view : View) → is_unsafe action ≡ false → may_act name access one action view ≡ may_act name access other action view
acts_alike name access one other block view h = refl
acts_alike name access one other (redirect target) view h = cc
acts_alike name access one other allow view h = refl
acts_alike name access one other upgrade_scheme view h = refl
acts_alike name access one other (modify_headers asked answered) view h = cc
acts_alike name access one other allow_all_requests view h = refl

view_of_part : (request : Request) (place : ℕ) (frame : Frame) (o : Option View) → IfSome o IsView → IfSome (option_map (frame_part_at request place frame) o) (λ part. IsView part.view)
view_of_part request place frame None h = tt
view_of_part request place frame (Some view) h = h

module _ (suffixes : List SuffixRule) (request : Request) (views : HasViews request) (k s : Rule) (rule : IsRule k) (h : shadows k s ≡ true) where
  wide : (part : Part) → IsView part.view → holds suffixes s part ≡ true → holds suffixes k part ≡ true
  wide part view = shadows_hold_wider suffixes k s part view rule h

  part_more : (o : Option Part) → IfSome o (λ part. IsView part.view) → holds_on_part suffixes s o ≡ true → holds_on_part suffixes k o ≡ true
  part_more None view held = held
  part_more (Some part) view held = wide part view held

  frames_more : (place : ℕ) (frames : List Frame) → AllByRecursion (λ frame. IfSome frame.view IsView) frames
      → is_some (first_frame suffixes s request place frames) ≡ true → is_some (first_frame suffixes k request place frames) ≡ true
  frames_more place [] are held = held
  frames_more place (frame ∷ frames) are held =
      then_some (holds_on_part suffixes s (frame_part_of request place frame)) (holds_on_part suffixes k (frame_part_of request place frame)) place place
      (first_frame suffixes s request (place + 1) frames) (first_frame suffixes k request (place + 1) frames)
      (part_more (frame_part_of request place frame) (view_of_part request place frame frame.view are.0))
      (frames_more (place + 1) frames are.1) held

  through_more : (action : Action) → is_some (through_frames suffixes s request action) ≡ true → is_some (through_frames suffixes k request action) ≡ true
  through_more block held = held
  through_more (redirect target) held = held
  through_more allow held = held
  through_more upgrade_scheme held = held
  through_more (modify_headers asked answered) held = held
  through_more allow_all_requests held =
      by_first_some (first_frame suffixes k request 0 request.frames)
      ∙ frames_more 0 request.frames (each_of_all (λ frame. IfSome frame.view IsView) request.frames views.frames) (sym (by_first_some (first_frame suffixes s request 0 request.frames)) ∙ held)

  facts : Shadowing k s
  facts = shadowing k s h

  reach_more : is_some (reach_of suffixes s request) ≡ true → is_some (reach_of suffixes k request) ≡ true
  reach_more held =
      then_some (holds suffixes s (own_part request)) (holds suffixes k (own_part request)) Own Own
      (through_frames suffixes s request s.action) (through_frames suffixes k request k.action)
      (wide (own_part request) views.own)
      (λ framed. ap (λ a. is_some (through_frames suffixes k request a)) facts.action ∙ through_more s.action framed) held

  pub outdoes : (name : List ℕ) (access : Bool) → Outdoes suffixes name access request k s
  outdoes name access = record {
    action = facts.action;
    safe = facts.safe;
    priority = facts.priority;
    reaches = λ one.
        let p = and_parts (is_some (reach_of suffixes s request)) (may_act name access s s.action request.view) one in
        and_from (is_some (reach_of suffixes k request)) (may_act name access k k.action request.view) (reach_more p.0)
        (ap (λ a. may_act name access k a request.view) facts.action ∙ acts_alike name access k s s.action request.view facts.safe ∙ p.1);
  }
