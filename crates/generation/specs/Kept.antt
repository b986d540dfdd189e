-- What is kept of an extension while its rules are walked.
use Rattle.std.specs.Prelude.{ℕ, ◌+◌, List, [], ◌∷◌, ◌++◌, Bool, Option, Some, None, fold, max, if◌then◌else◌}
use Rattle.dnr_base.specs.declared.candidate.Candidate.{Candidate}
use Rattle.dnr_base.specs.declared.request.Request.{Request}
use Rattle.dnr_base.specs.declared.verb.Verb.{Verb}
use Rattle.dnr_spec.specs.Order.{beats}
use Rattle.dnr_spec.specs.Suffixes.{SuffixRule}
use Rattle.rule_spec.specs.Access.{has_access}
use Rattle.explain_spec.specs.Explanation.{frame_of}
use Rattle.rule_spec.specs.Reaches.{reach_of}
use Rattle.rule_spec.specs.Rule.{verb_of}
use Rattle.rule_spec.specs.Scan.{allowed_priority, candidate_of, is_candidate}
use Rattle.rule_spec.specs.State.{Extension, Live, live_rules}

-- a candidate that may decide, with the place of the frame by which it reaches the request, if it is by one
pub record Found : Type 0 where
  pub live : Live
  pub candidate : Candidate
  pub frame : Option ℕ

-- Of its candidates: the one that decides so far, those that change headers, and the greatest priority of those that
-- allow. `age` is the extension's place in the order of installation, and `access` whether it has access to the request.
pub record Kept : Type 0 where
  pub name : List ℕ
  pub age : ℕ
  pub access : Bool
  pub best : Option Found
  pub changing : List Live
  pub allowed : ℕ

abbrev pub nothing_of : List ℕ → ℕ → Bool → Kept
nothing_of name age access =
    record { name = name; age = age; access = access; best = None; changing = []; allowed = 0 }

-- the better of what is kept and the next one
abbrev pub better_of : {X : Type 0} → (X → X → Bool) → Option X → X → Option X
better_of goes_before None next = Some next
better_of goes_before (Some best) next = if goes_before next best then Some next else Some best

abbrev pub is_stronger : Found → Found → Bool
is_stronger a b = beats a.candidate b.candidate

abbrev pub found_by : Live → Verb → Option ℕ → Found
found_by live verb frame = record { live = live; candidate = candidate_of live verb; frame = frame }

abbrev pub with_deciding : Kept → Live → Verb → Option ℕ → Kept
with_deciding kept live verb frame = record kept {
  best = better_of is_stronger kept.best (found_by live verb frame);
  allowed = max (allowed_priority live.rule.action live.rule.priority) kept.allowed;
}

abbrev pub with_changing : Kept → Live → Kept
with_changing kept live = record kept { changing = kept.changing ++ live ∷ [] }

abbrev pub with_verb : Option Verb → Kept → Live → Option ℕ → Kept
with_verb None kept live frame = with_changing kept live
with_verb (Some verb) kept live frame = with_deciding kept live verb frame

-- one more candidate, which reaches the request by this frame, if by one
abbrev pub with_candidate : Kept → Live → Option ℕ → Kept
with_candidate kept live frame = with_verb (verb_of live.rule.action) kept live frame

-- the frame by which the rule reaches the request, if it is by one
abbrev pub frame_by : List SuffixRule → Request → Live → Option ℕ
frame_by suffixes request live = frame_of (reach_of suffixes live.rule request)

-- one more rule in force
abbrev pub with_live : List SuffixRule → Request → Kept → Live → Kept
with_live suffixes request kept live =
    if is_candidate suffixes kept.name kept.access request live.rule then
    with_candidate kept live (frame_by suffixes request live)
    else kept

abbrev pub with_lives : List SuffixRule → Request → Kept → List Live → Kept
with_lives suffixes request kept lives = fold (with_live suffixes request) kept lives

-- one more rule, if there is one
abbrev pub with_some : List SuffixRule → Request → Kept → Option Live → Kept
with_some suffixes request kept None = kept
with_some suffixes request kept (Some live) = with_live suffixes request kept live

-- what is kept of an extension at the end
abbrev pub kept_of : List SuffixRule → Request → ℕ → Extension → Kept
kept_of suffixes request age extension =
    with_lives suffixes request (nothing_of extension.name age (has_access extension.access request)) (live_rules extension)

-- what is kept of extensions, of which the first has this age
abbrev pub kept_from : List SuffixRule → Request → ℕ → List Extension → List Kept
kept_from suffixes request age [] = []
kept_from suffixes request age (extension ∷ extensions) =
    kept_of suffixes request age extension ∷ kept_from suffixes request (age + 1) extensions
