-- Why a request fares as it does: its verdict, and what each extension says of it. Chrome's reference of
-- declarativeNetRequest, `testMatchOutcome`, tells of the rules that match; the form of an explanation is this engine's own.
use Rattle.std.specs.Prelude.{ℕ, List, [], ◌∷◌, map, reverse, nat_le, Option, Some, None, option_map, if◌then◌else◌}
use Rattle.dnr_base.specs.declared.candidate.Candidate.{Candidate}
use Rattle.dnr_base.specs.declared.request.Request.{Request}
use Rattle.dnr_base.specs.declared.rule_name.RuleName.{RuleName}
use Rattle.dnr_base.specs.declared.verb.Verb.{Verb}
use Rattle.dnr_spec.specs.Suffixes.{SuffixRule}
use Rattle.rule_spec.specs.declared.reach.Reach.{Reach}
use Rattle.rule_spec.specs.declared.reach.Reach.TheVariants.{Own, Frame as by_frame}
use Rattle.rule_spec.specs.Reaches.{reach_of}
use Rattle.rule_spec.specs.State.{Extension, Live, State}
use Rattle.rule_spec.specs.Scan.{Verdict, name_of, scan, winner_of}

-- A rule that an extension decides by. `frame` is the place of the outermost frame by which it reaches the request, where
-- it does not hold on the request itself; `lines` are those of a filter list that it comes from.
pub record WhyRule : Type 0 where
  pub rule : RuleName
  pub verb : Verb
  pub priority : ℕ
  pub frame : Option ℕ
  pub lines : List ℕ

-- what an extension says, if it says anything
pub record Why : Type 0 where
  pub ext : List ℕ
  pub winner : Option WhyRule

pub record Explanation : Type 0 where
  pub verdict : Verdict
  pub why : List Why

-- the frame by which a rule reaches, if it is by one
abbrev pub frame_of : Option Reach → Option ℕ
frame_of None = None
frame_of (Some Own) = None
frame_of (Some (by_frame place)) = Some place

abbrev pub line_into : ℕ → List ℕ → List ℕ
line_into line [] = line ∷ []
line_into line (first ∷ rest) = if nat_le line first then line ∷ first ∷ rest else first ∷ line_into line rest

-- the same lines, ascending
abbrev pub ascending_lines : List ℕ → List ℕ
ascending_lines [] = []
ascending_lines (line ∷ lines) = line_into line (ascending_lines lines)

abbrev pub why_rule : List SuffixRule → Request → List ℕ → Live × Candidate → WhyRule
why_rule suffixes request extension one = record {
  rule = name_of extension one.0;
  verb = one.1.action;
  priority = one.0.rule.priority;
  frame = frame_of (reach_of suffixes one.0.rule request);
  lines = ascending_lines one.0.lines;
}

-- by the rule that decides inside the extension
abbrev pub why_of : List SuffixRule → Request → Extension → Why
why_of suffixes request extension = record {
  ext = extension.name;
  winner = option_map (why_rule suffixes request extension.name) (winner_of suffixes request extension);
}

-- the verdict, and what each extension says, the newest first
unfoldable pub explanation_of : List SuffixRule → State → Request → Explanation
explanation_of suffixes state request = record {
  verdict = scan suffixes state request;
  why = reverse (map (why_of suffixes request) state.extensions);
}
