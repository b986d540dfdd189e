use Rattle.std.proofs.Common.{sym, ◌∙◌, ap}
use Rattle.update_spec.specs.Judge.{judge_update}
use Rattle.ruleset_store.specs.Seen.{update_seen}
use Rattle.keep_spec.specs.Kept.{takes_read}
use Rattle.rule_keep.specs.declared.refusals.Stop.TheVariants.{Refused, HostFault}
use Rattle.rule_keep.proofs.Stops.{same_err, not_accepted, never_host}
use Rattle.rule_keep.proofs.take.take.Goals as goal

pub returns-in-Err-clause-refused : goal.returns-in-Err-clause-refused
returns-in-Err-clause-refused g c = λ is.
    let stop = sym c.stop_of_refusal.ensures ∙ same_err c.stop_of_refusal.result Refused is in
    ap (takes_read c.args.store.now) c.in_ok-update.ensures.read
    ∙ not_accepted (judge_update c.args.store.now (update_seen c.in_ok-update.update)) c.in-Err.refusal c.in-Err.ensures.refused stop

pub returns-in-Err-clause-fault : goal.returns-in-Err-clause-fault
returns-in-Err-clause-fault g c = λ is.
    absurd (never_host c.in-Err.refusal (sym c.stop_of_refusal.ensures ∙ same_err c.stop_of_refusal.result HostFault is))
