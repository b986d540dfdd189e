use Rattle.std.proofs.Common.{rules, arith, take, sym, ◌∙◌}
use Rattle.std.specs.Ordering.{nat_cmp}
use Rattle.std.specs.BTreeSet.{contains}
use Rattle.std.proofs.lemmas.Grind.{common_steps}
use Rattle.std.proofs.lemmas.List.Folds.{list_any-append}
use Rattle.rule_prune.specs.Known.{rule_in}
use Rattle.rule_prune.proofs.Faults.{fault_none, fault_some}
use Rattle.rule_prune.proofs.Known.{fault_told}
use Rattle.rule_prune.proofs.checks.first_fault.Goals as goal

pub returns-in-Some : goal.returns-in-Some
returns-in-Some c =
    let proof = c.args.proof.now in
    let place = c.loop-place.place in
    let told = fault_told c.args.rules.now proof (take place proof) (rule_in c.in_ok-table.table) (contains nat_cmp c.args.removed.now) (contains nat_cmp c.loop-place.before) c.in_ok-table.ensures c.requires c.loop-place.invariant.before place in
    sym (c.loop-place.invariant.fault ∙ fault_some c.args.rules.now proof place _ c.in-Some.refusal c.loop-place-test.true (search rules) (sym (told _) ∙ sym c.fault_of.ensures ∙ c.in-Some.is))

pub loop-place-preserved : goal.loop-place-preserved
loop-place-preserved c =
    let proof = c.args.proof.now in
    let place = c.loop-place.place in
    let told = fault_told c.args.rules.now proof (take place proof) (rule_in c.in_ok-table.table) (contains nat_cmp c.args.removed.now) (contains nat_cmp c.loop-place.before) c.in_ok-table.ensures c.requires c.loop-place.invariant.before place in
    record {
      fault = c.loop-place.invariant.fault ∙ fault_none c.args.rules.now proof place _ c.loop-place-test.true (search rules) (sym (told _) ∙ sym c.fault_of.ensures ∙ c.in_default.is);
      before = λ q. grind (arith, common_steps, list_any-append, c.loop-place.invariant.before q);
    }
