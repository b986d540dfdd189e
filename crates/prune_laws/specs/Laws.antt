-- What is known of rules that another makes needless.
use Rattle.std.specs.Prelude.{◌≡◌, ℕ, List, [], ◌∷◌, ◌++◌, All, true, Option, Ok}
use Rattle.std.specs.List.{Contains}
use Rattle.dnr_base.specs.declared.request.Request.{Request}
use Rattle.dnr_base.specs.Request.{Part}
use Rattle.dnr_base.specs.View.{IsView}
use Rattle.dnr_spec.specs.Suffixes.{SuffixRule}
use Rattle.rule_spec.specs.Rule.{Rule}
use Rattle.rule_spec.specs.IsRule.{IsRule}
use Rattle.rule_spec.specs.Holds.{holds}
use Rattle.rule_spec.specs.State.{RuleSet, Extension, State}
use Rattle.rule_spec.specs.Scan.{Verdict, scan}
use Rattle.prune_spec.specs.declared.shadow.Shadow.{Shadow}
use Rattle.prune_spec.specs.Shadows.{shadows}
use Rattle.compile_laws.specs.Origins.{HasViews}
use Rattle.prune_spec.specs.Pruned.{IdsDiffer, checked, kept, removals}

-- ---- states that hold these rules

-- what stands round the rules of an enabled ruleset of which no rule is switched off
pub record Around : Type 0 where
  pub older : List Extension
  pub newer : List Extension
  pub name : List ℕ
  pub access : Option (List (List ℕ))
  pub dynamic : List Rule
  pub session : List Rule
  pub before : List RuleSet
  pub behind : List RuleSet
  pub id : List ℕ
  pub count : ℕ

abbrev pub set_of : Around → List Rule → List (List ℕ) → RuleSet
set_of around rules origins = record { id = around.id; enabled = true; rules = rules; origins = origins; disabled = [] }

abbrev pub extension_of : Around → List Rule → List (List ℕ) → Extension
extension_of around rules origins = record {
  name = around.name;
  sets = around.before ++ set_of around rules origins ∷ around.behind;
  access = around.access;
  dynamic = around.dynamic;
  session = around.session;
}

-- the state whose ruleset holds these rules, which come from these lines
abbrev pub holding : Around → List Rule → List (List ℕ) → State
holding around rules origins = record {
  extensions = around.older ++ extension_of around rules origins ∷ around.newer;
  count = around.count;
}

-- ---- laws

-- both verdicts do the same; the rule that decides may be another
pub record DoTheSame (one other : Verdict) : Type 0 where
  pub outcome : one.outcome ≡ other.outcome
  pub target : one.target ≡ other.target
  pub ops : one.ops ≡ other.ops
  pub request_headers : one.request_headers ≡ other.request_headers
  pub response_headers : one.response_headers ≡ other.response_headers

-- whatever else stands in a state and whatever is asked, it does the same with the rest in place of the rules
abbrev pub DoAlike : List Rule → List Rule → Type 0
DoAlike rules rest =
    (suffixes : List SuffixRule) (request : Request) → HasViews request → (around : Around) (origins others : List (List ℕ))
    → DoTheSame (scan suffixes (holding around rules origins) request) (scan suffixes (holding around rest others) request)

-- a rule holds wherever one holds that it makes needless
abbrev pub ShadowsHoldWider : Type 0
ShadowsHoldWider =
    (suffixes : List SuffixRule) (k s : Rule) (part : Part) → IsView part.view → IsRule k → shadows k s ≡ true
    → holds suffixes s part ≡ true → holds suffixes k part ≡ true

-- without a rule that another of its ruleset makes needless, a state does the same
abbrev pub OneIsNeedless : Type 0
OneIsNeedless =
    (front : List Rule) (s : Rule) (back : List Rule) (k : Rule) → Contains (front ++ back) k → IsRule k → shadows k s ≡ true
    → DoAlike (front ++ s ∷ back) (front ++ back)

-- and so it does with the rest that a proof leaves
abbrev pub RestDoesTheSame : Type 0
RestDoesTheSame =
    (rules : List Rule) (proof : List Shadow) (rest : List Rule) → All IsRule rules → IdsDiffer rules → checked rules proof ≡ Ok rest
    → DoAlike rules rest

-- the removals that are looked for are a proof, and leave the rules that are kept
abbrev pub FoundIsAccepted : Type 0
FoundIsAccepted = (rules : List Rule) → All IsRule rules → IdsDiffer rules → checked rules (removals rules) ≡ Ok (kept rules)
