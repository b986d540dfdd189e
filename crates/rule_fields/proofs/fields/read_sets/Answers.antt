use Rattle.std.proofs.Common.{drop}
use Rattle.std.proofs.lemmas.Result.{err_from_is_err_and}
use Rattle.serde_json.specs.View.{view}
use Rattle.rule_spec.specs.declared.rule_path.RulePath.TheVariants as path
use Rattle.json_spec.specs.RuleFields.{as_kinds, as_methods, as_party, as_tabs, field_in}
use Rattle.rule_fields.specs.Groups.{set_tests}
use Rattle.rule_fields.proofs.Order.{test_refused}
use Rattle.rule_fields.proofs.fields.read_sets.Goals as goal

pub returns-in_err-third_party-clause-refused : goal.returns-in_err-third_party-clause-refused
returns-in_err-third_party-clause-refused c =
    let d = view c.args.condition.now.value.now in
    let p = err_from_is_err_and c.from_residual.result c.from_residual.ensures.1 in
    rw (p.1, p.2) (test_refused (field_in as_party path.DomainType d) (drop 1 (set_tests d)) ⊥ c.in_err-third_party.field-0.0 c.in_err-third_party.ensures.refused)

pub returns-in_err-kinds-clause-refused : goal.returns-in_err-kinds-clause-refused
returns-in_err-kinds-clause-refused c =
    let d = view c.args.condition.now.value.now in
    let p = err_from_is_err_and c.from_residual-in_err-kinds.result c.from_residual-in_err-kinds.ensures.1 in
    rw (p.1, p.2, c.in_ok-third_party.ensures.ok) (test_refused (field_in as_kinds path.ResourceTypes d) (drop 2 (set_tests d)) ⊥ c.in_err-kinds.field-0.0 c.in_err-kinds.ensures.refused)

pub returns-in_err-not_kinds-clause-refused : goal.returns-in_err-not_kinds-clause-refused
returns-in_err-not_kinds-clause-refused c =
    let d = view c.args.condition.now.value.now in
    let p = err_from_is_err_and c.from_residual-in_err-not_kinds.result c.from_residual-in_err-not_kinds.ensures.1 in
    rw (p.1, p.2, c.in_ok-third_party.ensures.ok, c.in_ok-kinds.ensures.ok) (test_refused (field_in as_kinds path.ExcludedResourceTypes d) (drop 3 (set_tests d)) ⊥ c.in_err-not_kinds.field-0.0 c.in_err-not_kinds.ensures.refused)

pub returns-in_err-methods-clause-refused : goal.returns-in_err-methods-clause-refused
returns-in_err-methods-clause-refused c =
    let d = view c.args.condition.now.value.now in
    let p = err_from_is_err_and c.from_residual-in_err-methods.result c.from_residual-in_err-methods.ensures.1 in
    rw (p.1, p.2, c.in_ok-third_party.ensures.ok, c.in_ok-kinds.ensures.ok, c.in_ok-not_kinds.ensures.ok) (test_refused (field_in as_methods path.RequestMethods d) (drop 4 (set_tests d)) ⊥ c.in_err-methods.field-0.0 c.in_err-methods.ensures.refused)

pub returns-in_err-not_methods-clause-refused : goal.returns-in_err-not_methods-clause-refused
returns-in_err-not_methods-clause-refused c =
    let d = view c.args.condition.now.value.now in
    let p = err_from_is_err_and c.from_residual-in_err-not_methods.result c.from_residual-in_err-not_methods.ensures.1 in
    rw (p.1, p.2, c.in_ok-third_party.ensures.ok, c.in_ok-kinds.ensures.ok, c.in_ok-not_kinds.ensures.ok, c.in_ok-methods.ensures.ok) (test_refused (field_in as_methods path.ExcludedRequestMethods d) (drop 5 (set_tests d)) ⊥ c.in_err-not_methods.field-0.0 c.in_err-not_methods.ensures.refused)

pub returns-in_err-tabs-clause-refused : goal.returns-in_err-tabs-clause-refused
returns-in_err-tabs-clause-refused c =
    let d = view c.args.condition.now.value.now in
    let p = err_from_is_err_and c.from_residual-in_err-tabs.result c.from_residual-in_err-tabs.ensures.1 in
    rw (p.1, p.2, c.in_ok-third_party.ensures.ok, c.in_ok-kinds.ensures.ok, c.in_ok-not_kinds.ensures.ok, c.in_ok-methods.ensures.ok, c.in_ok-not_methods.ensures.ok) (test_refused (field_in as_tabs path.TabIds d) (drop 6 (set_tests d)) ⊥ c.in_err-tabs.field-0.0 c.in_err-tabs.ensures.refused)

pub returns-in_err-not_tabs-clause-refused : goal.returns-in_err-not_tabs-clause-refused
returns-in_err-not_tabs-clause-refused c =
    let d = view c.args.condition.now.value.now in
    let p = err_from_is_err_and c.from_residual-in_err-not_tabs.result c.from_residual-in_err-not_tabs.ensures.1 in
    rw (p.1, p.2, c.in_ok-third_party.ensures.ok, c.in_ok-kinds.ensures.ok, c.in_ok-not_kinds.ensures.ok, c.in_ok-methods.ensures.ok, c.in_ok-not_methods.ensures.ok, c.in_ok-tabs.ensures.ok) (test_refused (field_in as_tabs path.ExcludedTabIds d) (drop 7 (set_tests d)) ⊥ c.in_err-not_tabs.field-0.0 c.in_err-not_tabs.ensures.refused)
