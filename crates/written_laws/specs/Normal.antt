-- The normal form of a rule: what it lists as a set stands once each, in one order. Domains ascend by bytes, tabs
-- ascend, and types and methods have the order of Chrome's reference.
use Rattle.std.specs.Prelude.{Bool, ◌||◌, nat_lt, length, is_some, option_map}
use Rattle.rule_spec.specs.Rule.{Condition, Rule}
use Rattle.json_spec.specs.RuleFields.{kind_set, method_set}
use Rattle.json_spec.specs.Written.{ascending_domains, ascending_tabs}

abbrev pub normal_condition : Condition → Condition
normal_condition c = record c {
  initiators = option_map ascending_domains c.initiators;
  not_initiators = ascending_domains c.not_initiators;
  hosts = option_map ascending_domains c.hosts;
  not_hosts = ascending_domains c.not_hosts;
  kinds = kind_set c.kinds;
  methods = option_map method_set c.methods;
  not_methods = method_set c.not_methods;
  tabs = option_map ascending_tabs c.tabs;
  not_tabs = ascending_tabs c.not_tabs;
}

abbrev pub normal : Rule → Rule
normal rule = record { id = rule.id; priority = rule.priority; condition = normal_condition rule.condition; action = rule.action }

-- the rule lists tabs, or excludes some
abbrev pub names_tabs : Rule → Bool
names_tabs rule = is_some rule.condition.tabs || nat_lt 0 (length rule.condition.not_tabs)
