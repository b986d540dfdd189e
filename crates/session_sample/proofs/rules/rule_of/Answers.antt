use Rattle.dnr_rules.specs.Seen.{condition_seen}
use Rattle.session_sample.proofs.rules.rule_of.Goals as goal

pub build-requires : goal.build-requires
build-requires c = record {
  id = c.requires.id;
  priority = c.requires.priority;
  condition = c.in_ok-condition.ensures.kept;
  action = c.in_ok-action.ensures.kept (condition_seen c.in_ok-condition.condition);
}
