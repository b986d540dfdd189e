-- The rules that the program's parts stand for.
use Rattle.std.specs.Prelude.{ℕ, Option, Some, None, option_map, Box}
use Rattle.std.specs.declared.alloc.Global.{Global}
use Rattle.dnr_base.specs.KindSet.{kinds_of}
use Rattle.dnr_base.specs.MethodSet.{methods_of}
use Rattle.rule_spec.specs.Rule as spec
use Rattle.dnr_rules.specs.declared.action.Action.{Action}
use Rattle.dnr_rules.specs.declared.action.Action.TheVariants.{Block, Redirect, Allow, UpgradeScheme, ModifyHeaders, AllowAllRequests}
use Rattle.dnr_rules.specs.declared.parts.ConditionParts.{ConditionParts}
use Rattle.dnr_rules.specs.declared.parts.RareParts.{RareParts}
use Rattle.dnr_rules.specs.declared.parts.RuleParts.{RuleParts}
use Rattle.dnr_rules.specs.Plain.{no_rare}

abbrev pub action_seen : Action → spec.Action
action_seen Block = spec.block
action_seen (Redirect target) = spec.redirect target.value
action_seen Allow = spec.allow
action_seen UpgradeScheme = spec.upgrade_scheme
action_seen (ModifyHeaders changes) = spec.modify_headers changes.value.request changes.value.response
action_seen AllowAllRequests = spec.allow_all_requests

-- what few conditions give; where there is no box nothing of it is given
abbrev pub rare_seen : Option (Box RareParts Global) → RareParts
rare_seen None = no_rare
rare_seen (Some rare) = rare.value

abbrev pub condition_seen : ConditionParts → spec.Condition
condition_seen parts = record {
  url_filter = parts.url_filter;
  regex_filter = (rare_seen parts.rare).regex_filter;
  case_sensitive = parts.case_sensitive;
  initiators = parts.initiators;
  not_initiators = (rare_seen parts.rare).not_initiators;
  hosts = parts.hosts;
  not_hosts = (rare_seen parts.rare).not_hosts;
  third_party = parts.third_party;
  kinds = kinds_of parts.kinds;
  methods = option_map methods_of parts.methods;
  not_methods = methods_of parts.not_methods;
  tabs = (rare_seen parts.rare).tabs;
  not_tabs = (rare_seen parts.rare).not_tabs;
  header_tests = (rare_seen parts.rare).header_tests;
  not_header_tests = (rare_seen parts.rare).not_header_tests;
}

abbrev pub rule_of : ℕ → ℕ → spec.Condition → Action → spec.Rule
rule_of id priority condition action = record { id = id; priority = priority; condition = condition; action = action_seen action }

abbrev pub parts_seen : RuleParts → spec.Rule
parts_seen parts = rule_of parts.id parts.priority (condition_seen parts.condition) parts.action
