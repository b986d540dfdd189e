use Rattle.std.proofs.Common.{◌≡◌, List, Option, Some, None, refl, sym, subst}
use Rattle.std.specs.Prelude.{IfOk, IfErr, OnOk, find}
use Rattle.rule_spec.specs.State.{RuleSet}
use Rattle.update_spec.specs.declared.refusal.Refusal.{Refusal}
use Rattle.update_spec.specs.Update.{has_set_id, with_rules_switched}
use Rattle.ruleset_store.specs.Seen.{IsRefusalOf}
use Rattle.ruleset_store.proofs.Lists.{put_lists}
use Rattle.ruleset_store.proofs.Rows.{refusal_same, sets_is, static_found, static_no_set}
use Rattle.ruleset_store.proofs.changes.static_after.Goals as goal

pub with_switched-requires : goal.with_switched-requires
with_switched-requires c =
    put_lists (has_set_id c.args.id.now) c.in-Some.set.now (with_rules_switched c.args.disable.now c.args.enable.now c.in-Some.set.now) c.args.extension.now.sets refl
    (subst (λ (sets : List RuleSet). find (has_set_id c.args.id.now) sets ≡ Some c.in-Some.set.now) c.sets.ensures (sym c.in-Some.ensures))

pub returns-in-Some-clause-judged : goal.returns-in-Some-clause-judged
returns-in-Some-clause-judged c =
    subst (λ (judged : Option Refusal). OnOk c.with_switched.result (judged ≡ None))
    (sym (static_found c.args.count c.args.id.now c.args.disable.now c.args.enable.now c.args.extension.now c.in-Some.set.now (subst (λ (sets : List RuleSet). find (has_set_id c.args.id.now) sets ≡ Some c.in-Some.set.now) c.sets.ensures (sym c.in-Some.ensures))))
    c.with_switched.ensures.judged

pub returns-in-Some-clause-next : goal.returns-in-Some-clause-next
returns-in-Some-clause-next c =
    subst (λ (sets : List RuleSet). IfOk c.with_switched.result (λ next. next ≡ record c.args.extension.now { sets = sets }))
    (sym (sets_is c.args.id.now c.args.disable.now c.args.enable.now c.args.extension.now c.in-Some.set.now (subst (λ (sets : List RuleSet). find (has_set_id c.args.id.now) sets ≡ Some c.in-Some.set.now) c.sets.ensures (sym c.in-Some.ensures))))
    c.with_switched.ensures.next

pub returns-in-Some-clause-refused : goal.returns-in-Some-clause-refused
returns-in-Some-clause-refused c =
    subst (λ (judged : Option Refusal). IfErr c.with_switched.result (IsRefusalOf judged))
    (sym (static_found c.args.count c.args.id.now c.args.disable.now c.args.enable.now c.args.extension.now c.in-Some.set.now (subst (λ (sets : List RuleSet). find (has_set_id c.args.id.now) sets ≡ Some c.in-Some.set.now) c.sets.ensures (sym c.in-Some.ensures))))
    c.with_switched.ensures.refused

pub returns-in-None-clause-refused : goal.returns-in-None-clause-refused
returns-in-None-clause-refused c =
    refusal_same _ _ _ (static_no_set c.args.count c.args.id.now c.args.disable.now c.args.enable.now c.args.extension.now (subst (λ (sets : List RuleSet). find (has_set_id c.args.id.now) sets ≡ None) c.sets.ensures (sym c.in-None.ensures))) c.missing_set.ensures
