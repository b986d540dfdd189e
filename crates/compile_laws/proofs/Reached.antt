-- Which requests the rules of a filter reach: those that the filter speaks of.
use Rattle.std.proofs.Common.{◌≡◌, ℕ, ◌+◌, List, [], ◌∷◌, Bool, true, false, cond, ◌||◌, ◌&&◌, Option, Some, None, option_map, refl, ap, ◌∙◌}
use Rattle.std.specs.Prelude.{is_some, ◌==◌}
use Rattle.std.specs.List.{list_any}
use Rattle.dnr_base.specs.declared.kind.Kind.TheVariants.{MainFrame, SubFrame}
use Rattle.dnr_base.specs.declared.method.Method.{Method}
use Rattle.dnr_base.specs.declared.frame.Frame.{Frame}
use Rattle.dnr_base.specs.declared.request.Request.{Request}
use Rattle.dnr_base.specs.Kind.{has_kind, same_kind}
use Rattle.dnr_base.specs.View.{View}
use Rattle.dnr_base.specs.Request.{Part, own_part, frame_part_of, frame_kind}
use Rattle.dnr_spec.specs.Suffixes.{SuffixRule}
use Rattle.rule_spec.specs.declared.reach.Reach.{Reach}
use Rattle.rule_spec.specs.declared.reach.Reach.TheVariants.{Own}
use Rattle.rule_spec.specs.Rule.{Condition, Rule}
use Rattle.rule_spec.specs.Holds.{holds_on}
use Rattle.rule_spec.specs.Reaches.{holds_on_part, first_frame, by_first}
use Rattle.rule_spec.specs.Scan.{is_candidate}
use Rattle.compile_spec.specs.Initiators.{Initiators, initiators_of}
use Rattle.compile_spec.specs.Compiled.{Standing, Effect, blocks, allows, exempts, kinds_for, Draft, rule_of}
use Rattle.compile_laws.proofs.Bools.{and_true, or_false, or_swapped}
use Rattle.compile_laws.proofs.Supported.{AreEntries}
use Rattle.compile_laws.proofs.Matching.{stands, condition_for, holds_some}

-- ---- one rule

abbrev holds_part : List SuffixRule → Condition → Option Part → Bool
holds_part suffixes condition None = false
holds_part suffixes condition (Some part) = holds_on suffixes condition part

-- the condition holds on one of the frames
abbrev holds_frame : List SuffixRule → Condition → Request → ℕ → List Frame → Bool
holds_frame suffixes condition request place [] = false
holds_frame suffixes condition request place (frame ∷ frames) =
    holds_part suffixes condition (frame_part_of request place frame) || holds_frame suffixes condition request (place + 1) frames

same_part : (suffixes : List SuffixRule) (rule : Rule) (part : Option Part) → holds_on_part suffixes rule part ≡ holds_part suffixes rule.condition part
same_part suffixes rule None = refl
same_part suffixes rule (Some part) = refl

first_or : (b : Bool) (place : ℕ) (later : Option ℕ) → is_some (by_first (cond b (Some place) later)) ≡ (b || is_some (by_first later))
first_or true place later = refl
first_or false place later = refl

frame_found : (suffixes : List SuffixRule) (rule : Rule) (request : Request) (place : ℕ) (frames : List Frame)
    → is_some (by_first (first_frame suffixes rule request place frames)) ≡ holds_frame suffixes rule.condition request place frames
frame_found suffixes rule request place [] = refl
frame_found suffixes rule request place (frame ∷ frames) =
    let part = frame_part_of request place frame in
    first_or (holds_on_part suffixes rule part) place (first_frame suffixes rule request (place + 1) frames)
    ∙ ap (λ b. holds_on_part suffixes rule part || b) (frame_found suffixes rule request (place + 1) frames)
    ∙ ap (λ b. b || holds_frame suffixes rule.condition request (place + 1) frames) (same_part suffixes rule part)

-- the rule of this effect reaches the request
abbrev pub reaches_by : List SuffixRule → Request → Effect → Condition → Bool
reaches_by suffixes request blocks condition = holds_on suffixes condition (own_part request)
reaches_by suffixes request allows condition = holds_on suffixes condition (own_part request)
reaches_by suffixes request exempts condition = holds_on suffixes condition (own_part request) || holds_frame suffixes condition request 0 request.frames

abbrev pub condition_by : Standing → Effect → Initiators → Condition
condition_by standing effect initiators = condition_for standing (kinds_for standing.filter effect) initiators

abbrev pub reaches_as : List SuffixRule → Request → Draft → Bool
reaches_as suffixes request draft = reaches_by suffixes request draft.effect (condition_by draft.standing draft.effect draft.initiators)

own_alone : (b : Bool) → (is_some (cond b (Some Own) None) && true) ≡ b
own_alone true = refl
own_alone false = refl

own_or : (b : Bool) (later : Option Reach) → (is_some (cond b (Some Own) later) && true) ≡ (b || is_some later)
own_or true later = refl
own_or false later = and_true (is_some later)

candidate_as : (suffixes : List SuffixRule) (name : List ℕ) (request : Request) (id : ℕ) (standing : Standing) (effect : Effect) (initiators : Initiators)
    → is_candidate suffixes name true request (rule_of id (record { standing = standing; effect = effect; initiators = initiators }))
    ≡ reaches_by suffixes request effect (condition_by standing effect initiators)
candidate_as suffixes name request id standing blocks initiators = own_alone (holds_on suffixes (condition_by standing blocks initiators) (own_part request))
candidate_as suffixes name request id standing allows initiators = own_alone (holds_on suffixes (condition_by standing allows initiators) (own_part request))
candidate_as suffixes name request id standing exempts initiators =
    let rule = rule_of id (record { standing = standing; effect = exempts; initiators = initiators }) in
    own_or (holds_on suffixes (condition_by standing exempts initiators) (own_part request)) (by_first (first_frame suffixes rule request 0 request.frames))
    ∙ ap (λ b. holds_on suffixes (condition_by standing exempts initiators) (own_part request) || b) (frame_found suffixes rule request 0 request.frames)

-- a rule is a candidate where it reaches the request
pub candidate_is : (suffixes : List SuffixRule) (name : List ℕ) (request : Request) (id : ℕ) (draft : Draft) → is_candidate suffixes name true request (rule_of id draft) ≡ reaches_as suffixes request draft
candidate_is suffixes name request id draft = candidate_as suffixes name request id draft.standing draft.effect draft.initiators

-- ---- what a test of parts says of a request

-- the part passes, if there is one
abbrev pub part_by : (Part → Bool) → Option Part → Bool
part_by test None = false
part_by test (Some part) = test part

-- one of the frames passes, which are counted from this place on
abbrev pub frame_by : (Part → Bool) → Request → ℕ → List Frame → Bool
frame_by test request place [] = false
frame_by test request place (frame ∷ frames) = part_by test (frame_part_of request place frame) || frame_by test request (place + 1) frames

-- the page passes
abbrev pub page_by : (Part → Bool) → Request → Bool
page_by test request = ((same_kind request.kind MainFrame || same_kind request.kind SubFrame) && test (own_part request)) || frame_by test request 0 request.frames

-- ---- all rules of what stands for filters

pub either_any : {X : Type 0} (p q : X → Bool) (xs : List X) → list_any (λ x. p x || q x) xs ≡ (list_any p xs || list_any q xs)
either_any p q [] = refl
either_any p q (x ∷ xs) = ap (λ b. (p x || q x) || b) (either_any p q xs) ∙ or_swapped (p x) (q x) (list_any p xs) (list_any q xs)

pub never_any : {X : Type 0} (xs : List X) → list_any (λ x. false) xs ≡ false
never_any [] = refl
never_any (x ∷ xs) = never_any xs

frame_kind_counts : (first : Bool) → has_kind (MainFrame ∷ SubFrame ∷ []) (cond first MainFrame SubFrame) ≡ true
frame_kind_counts true = refl
frame_kind_counts false = refl

module _ (suffixes : List SuffixRule) (request : Request) (standing : Standing) (are : AreEntries standing.filter.domains) where
  view_some : (place : ℕ) (initiator : Option (List ℕ)) (method : Method) (view : Option View)
      → list_any (λ initiators. holds_part suffixes (condition_by standing exempts initiators) (option_map (λ v. record { view = v; initiator = initiator; kind = frame_kind place; method = method; tab = request.tab; response_headers = None }) view)) (initiators_of standing.filter.domains)
      ≡ part_by (stands suffixes standing) (option_map (λ v. record { view = v; initiator = initiator; kind = frame_kind place; method = method; tab = request.tab; response_headers = None }) view)
  view_some place initiator method None = never_any (initiators_of standing.filter.domains)
  view_some place initiator method (Some view) =
      let part : Part = record { view = view; initiator = initiator; kind = frame_kind place; method = method; tab = request.tab; response_headers = None } in
      holds_some suffixes standing (MainFrame ∷ SubFrame ∷ []) part are ∙ ap (λ b. b && stands suffixes standing part) (frame_kind_counts (place == 0))

  frames_some : (place : ℕ) (frames : List Frame)
      → list_any (λ initiators. holds_frame suffixes (condition_by standing exempts initiators) request place frames) (initiators_of standing.filter.domains) ≡ frame_by (stands suffixes standing) request place frames
  frames_some place [] = never_any (initiators_of standing.filter.domains)
  frames_some place (frame ∷ frames) =
      either_any (λ initiators. holds_part suffixes (condition_by standing exempts initiators) (frame_part_of request place frame))
      (λ initiators. holds_frame suffixes (condition_by standing exempts initiators) request (place + 1) frames) (initiators_of standing.filter.domains)
      ∙ ap (λ b. b || list_any (λ initiators. holds_frame suffixes (condition_by standing exempts initiators) request (place + 1) frames) (initiators_of standing.filter.domains))
      (view_some place frame.initiator frame.method frame.view)
      ∙ ap (λ b. part_by (stands suffixes standing) (frame_part_of request place frame) || b) (frames_some (place + 1) frames)

  -- it has this effect on the request, if it has it at all
  abbrev pub has_effect : Effect → Bool
  has_effect blocks = has_kind standing.filter.kinds request.kind && stands suffixes standing (own_part request)
  has_effect allows = has_kind standing.filter.kinds request.kind && stands suffixes standing (own_part request)
  has_effect exempts = page_by (stands suffixes standing) request

  pub reaches_some : (effect : Effect) → list_any (λ initiators. reaches_by suffixes request effect (condition_by standing effect initiators)) (initiators_of standing.filter.domains) ≡ has_effect effect
  reaches_some blocks = holds_some suffixes standing standing.filter.kinds (own_part request) are
  reaches_some allows = holds_some suffixes standing standing.filter.kinds (own_part request) are
  reaches_some exempts =
      either_any (λ initiators. holds_on suffixes (condition_by standing exempts initiators) (own_part request))
      (λ initiators. holds_frame suffixes (condition_by standing exempts initiators) request 0 request.frames) (initiators_of standing.filter.domains)
      ∙ ap (λ b. b || list_any (λ initiators. holds_frame suffixes (condition_by standing exempts initiators) request 0 request.frames) (initiators_of standing.filter.domains))
      (holds_some suffixes standing (MainFrame ∷ SubFrame ∷ []) (own_part request) are
      ∙ ap (λ b. (same_kind request.kind MainFrame || b) && stands suffixes standing (own_part request)) (or_false (same_kind request.kind SubFrame)))
      ∙ ap (λ b. ((same_kind request.kind MainFrame || same_kind request.kind SubFrame) && stands suffixes standing (own_part request)) || b) (frames_some 0 request.frames)
