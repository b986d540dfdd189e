-- A rule and its normal form are the same rule but for the order in which it lists what it takes as sets.
use Rattle.std.specs.Prelude.{◌≡◌, List, map}
use Rattle.dnr_base.specs.declared.request.Request.{Request}
use Rattle.dnr_base.specs.Request.{Part}
use Rattle.dnr_spec.specs.Suffixes.{SuffixRule}
use Rattle.rule_spec.specs.Rule.{Rule}
use Rattle.rule_spec.specs.Holds.{holds}
use Rattle.rule_spec.specs.IsRule.{IsRule}
use Rattle.rule_spec.specs.State.{RuleSet, Extension, State}
use Rattle.rule_spec.specs.Scan.{scan}
use Rattle.json_spec.specs.Written.{written}
use Rattle.written_laws.specs.Normal.{normal}

abbrev pub normal_set : RuleSet → RuleSet
normal_set set = record { id = set.id; enabled = set.enabled; rules = map normal set.rules; origins = set.origins; disabled = set.disabled }

abbrev pub normal_extension : Extension → Extension
normal_extension extension = record {
  name = extension.name;
  sets = map normal_set extension.sets;
  access = extension.access;
  dynamic = map normal extension.dynamic;
  session = map normal extension.session;
}

-- the state with each rule in its normal form
abbrev pub normal_state : State → State
normal_state state = record { extensions = map normal_extension state.extensions; count = state.count }

-- ---- laws

-- they hold on the same parts
abbrev pub NormalRulesHoldAlike : Type 0
NormalRulesHoldAlike = (suffixes : List SuffixRule) (rule : Rule) (part : Part) → holds suffixes (normal rule) part ≡ holds suffixes rule part

-- the normal form keeps what every rule keeps
abbrev pub NormalRulesAreRules : Type 0
NormalRulesAreRules = (rule : Rule) → IsRule rule → IsRule (normal rule)

-- they are written alike
abbrev pub NormalRulesAreWrittenAlike : Type 0
NormalRulesAreWrittenAlike = (rules : List Rule) → written (map normal rules) ≡ written rules

-- the normal form of a normal form is itself
abbrev pub NormalRulesStay : Type 0
NormalRulesStay = (rule : Rule) → normal (normal rule) ≡ normal rule

-- a state decides each request as it does with its rules in their normal form
abbrev pub NormalStatesDecideAlike : Type 0
NormalStatesDecideAlike = (suffixes : List SuffixRule) (state : State) (request : Request) → scan suffixes (normal_state state) request ≡ scan suffixes state request
