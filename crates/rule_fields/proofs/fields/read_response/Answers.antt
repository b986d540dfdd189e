use Rattle.std.proofs.Common.{drop}
use Rattle.std.proofs.lemmas.Result.{err_from_is_err_and}
use Rattle.serde_json.specs.View.{view}
use Rattle.rule_spec.specs.declared.rule_path.RulePath.TheVariants as path
use Rattle.json_spec.specs.RuleFields.{as_header_tests, field_in}
use Rattle.rule_fields.specs.Groups.{response_tests}
use Rattle.rule_fields.proofs.Order.{test_refused}
use Rattle.rule_fields.proofs.fields.read_response.Goals as goal

pub returns-in_err-header_tests-clause-refused : goal.returns-in_err-header_tests-clause-refused
returns-in_err-header_tests-clause-refused c =
    let d = view c.args.condition.now.value.now in
    let p = err_from_is_err_and c.from_residual.result c.from_residual.ensures.1 in
    rw (p.1, p.2) (test_refused (field_in as_header_tests path.ResponseHeaders d) (drop 1 (response_tests d)) ⊥ c.in_err-header_tests.field-0.0 c.in_err-header_tests.ensures.refused)

pub returns-in_err-not_header_tests-clause-refused : goal.returns-in_err-not_header_tests-clause-refused
returns-in_err-not_header_tests-clause-refused c =
    let d = view c.args.condition.now.value.now in
    let p = err_from_is_err_and c.from_residual-in_err-not_header_tests.result c.from_residual-in_err-not_header_tests.ensures.1 in
    rw (p.1, p.2, c.in_ok-header_tests.ensures.ok) (test_refused (field_in as_header_tests path.ExcludedResponseHeaders d) (drop 2 (response_tests d)) ⊥ c.in_err-not_header_tests.field-0.0 c.in_err-not_header_tests.ensures.refused)
