use Rattle.std.proofs.Common.{drop}
use Rattle.std.proofs.lemmas.Result.{err_from_is_err_and}
use Rattle.serde_json.specs.View.{view}
use Rattle.rule_spec.specs.declared.rule_path.RulePath.TheVariants as path
use Rattle.json_spec.specs.RuleFields.{absent_in}
use Rattle.rule_fields.specs.Groups.{forbidden_tests}
use Rattle.rule_fields.proofs.Order.{test_refused}
use Rattle.rule_fields.proofs.fields.test_forbidden.Goals as goal

pub returns-in_err-test_absent-clause-refused : goal.returns-in_err-test_absent-clause-refused
returns-in_err-test_absent-clause-refused c =
    let d = view c.args.condition.now.value.now in
    let p = err_from_is_err_and c.from_residual.result c.from_residual.ensures.1 in
    rw (p.1, p.2) (test_refused (absent_in path.TopDomains d) (drop 1 (forbidden_tests d)) ⊥ c.in_err-test_absent.field-0.0 c.in_err-test_absent.ensures.refused)
