-- What the program's parts stand for.
use Rattle.json_spec.specs.ReadRule as rule
use Rattle.rule_read.specs.declared.numbers.Numbers.{Numbers}
use Rattle.rule_read.specs.declared.conditions.DomainLists.{DomainLists}

abbrev pub numbers_seen : Numbers → rule.Numbers
numbers_seen numbers = record { id = numbers.id; priority = numbers.priority }

abbrev pub lists_seen : DomainLists → rule.DomainLists
lists_seen lists = record {
  initiators = lists.initiators;
  not_initiators = lists.not_initiators;
  hosts = lists.hosts;
  not_hosts = lists.not_hosts;
}
