-- The rules in force that a pattern host is asked about.
use Rattle.std.specs.Prelude.{◌≡◌, IsSome}
use Rattle.std.specs.List.{Contains}
use Rattle.dnr_base.specs.declared.rule_name.RuleName.{RuleName}
use Rattle.rule_spec.specs.State.{Extension, State, Live, live_rules}
use Rattle.rule_spec.specs.Scan.{name_of}

-- a rule in force of this name has a regexFilter
pub record NamesPattern (state : State) (name : RuleName) : Type 0 where
  pub extension : Extension
  pub live : Live
  pub installed : Contains state.extensions extension
  pub in_force : Contains (live_rules extension) live
  pub pattern : IsSome live.rule.condition.regex_filter
  pub named : name ≡ name_of extension.name live
