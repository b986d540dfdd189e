use Rattle.update_spec.specs.declared.refusal.Refusal.TheVariants as refusal
use Rattle.update_spec.specs.Judge.{lacks_rule}
use Rattle.ruleset_store.proofs.Firsts.{answers_both, first_stops}
use Rattle.ruleset_store.proofs.changes.judge_rules_switched.Goals as goal

pub returns-in-Ok : goal.returns-in-Ok
returns-in-Ok c =
    answers_both (lacks_rule c.args.set.now) refusal.NoStaticRule c.args.disable.now c.args.enable.now c.judge_rule_ids-in-Ok.result c.in-Ok.ensures c.judge_rule_ids-in-Ok.ensures

pub returns-in-Err : goal.returns-in-Err
returns-in-Err c =
    first_stops (lacks_rule c.args.set.now) refusal.NoStaticRule c.args.disable.now c.args.enable.now c.in-Err.refusal c.in-Err.ensures
