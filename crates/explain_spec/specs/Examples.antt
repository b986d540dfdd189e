-- Examples of explanations, each computed from the definitions alone.
use Rattle.std.specs.Prelude.{◌≡◌, ℕ, List, [], ◌∷◌, codes, true, Option, Some, None}
use Rattle.dnr_base.specs.declared.kind.Kind.TheVariants.{MainFrame}
use Rattle.dnr_base.specs.declared.verb.Verb.TheVariants as verb
use Rattle.rule_spec.specs.declared.outcome.Outcome.TheVariants as outcome
use Rattle.rule_spec.specs.Rule.{Rule, allow_all_requests, block}
use Rattle.rule_spec.specs.State.{Extension}
use Rattle.rule_spec.specs.Scan.{plain_verdict}
use Rattle.rule_spec.specs.Examples.{extension_of, frame_at, frame_without_url, name_in, page_rules, request_to, rule_of, rule_on, state_of}
use Rattle.explain_spec.specs.Explanation.{Why, WhyRule, explanation_of}

abbrev pub said : List ℕ → WhyRule → Why
said extension rule = record { ext = extension; winner = Some rule }

abbrev pub nothing_said : List ℕ → Why
nothing_said extension = record { ext = extension; winner = None }

-- A page's rule is named with the frame by which it reaches what the page asks for.
abbrev pub FrameIsNamed : Type 0
FrameIsNamed =
    explanation_of [] (page_rules 5) (request_to (codes "x.com") (frame_at (codes "top.com") ∷ frame_at (codes "mid.com") ∷ []) None)
    ≡ record {
      verdict = plain_verdict outcome.Allow (Some (name_in (codes "a") 1)) None;
      why = said (codes "a") (record {
        rule = name_in (codes "a") 1;
        verb = verb.AllowAllRequests;
        priority = 5;
        frame = Some 0;
        lines = [];
      }) ∷ [];
    }

-- The newest extension is explained first, also where an older one decides, and one that says nothing too.
abbrev pub NewestIsExplainedFirst : Type 0
NewestIsExplainedFirst =
    explanation_of [] (state_of (extension_of (codes "a") (rule_of 1 2 (codes "||x.com^") block ∷ rule_of 7 3 (codes "||x.com^") block ∷ [])
    ∷ extension_of (codes "b") (rule_of 1 1 (codes "||y.com^") block ∷ []) ∷ [])) (request_to (codes "x.com") [] None)
    ≡ record {
      verdict = plain_verdict outcome.Block (Some (name_in (codes "a") 7)) None;
      why = nothing_said (codes "b") ∷ said (codes "a") (record {
        rule = name_in (codes "a") 7;
        verb = verb.Block;
        priority = 3;
        frame = None;
        lines = [];
      }) ∷ [];
    }

-- an extension with the rules of a filter list, of which each comes from these lines
abbrev pub listed : List Rule → List (List ℕ) → Extension
listed rules origins = record {
  name = codes "a";
  sets = record { id = codes "s"; enabled = true; rules = rules; origins = origins; disabled = [] } ∷ [];
  access = None;
  dynamic = [];
  session = [];
}

-- The lines that a rule comes from ascend.
abbrev pub LinesAscend : Type 0
LinesAscend =
    explanation_of [] (state_of (listed (rule_of 1 1 (codes "||x.com^") block ∷ []) ((9 ∷ 2 ∷ 4 ∷ []) ∷ []) ∷ [])) (request_to (codes "x.com") [] None)
    ≡ record {
      verdict = plain_verdict outcome.Block (Some (name_in (codes "a") 1)) None;
      why = said (codes "a") (record {
        rule = name_in (codes "a") 1;
        verb = verb.Block;
        priority = 1;
        frame = None;
        lines = 2 ∷ 4 ∷ 9 ∷ [];
      }) ∷ [];
    }
