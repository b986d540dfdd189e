use Rattle.update_spec.specs.declared.refusal.Refusal.TheVariants as refusal
use Rattle.update_spec.specs.Judge.{lacks_set}
use Rattle.ruleset_store.proofs.Firsts.{answers_both, first_stops}
use Rattle.ruleset_store.proofs.changes.judge_switched.Goals as goal

pub returns-in-Ok : goal.returns-in-Ok
returns-in-Ok c =
    answers_both (lacks_set c.args.extension.now) refusal.NoRuleset c.args.disable.now c.args.enable.now c.judge_set_ids-in-Ok.result c.in-Ok.ensures c.judge_set_ids-in-Ok.ensures

pub returns-in-Err : goal.returns-in-Err
returns-in-Err c =
    first_stops (lacks_set c.args.extension.now) refusal.NoRuleset c.args.disable.now c.args.enable.now c.in-Err.refusal c.in-Err.ensures
