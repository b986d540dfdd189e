use Rattle.std.proofs.Common.{drop}
use Rattle.std.proofs.lemmas.Result.{err_from_is_err_and}
use Rattle.serde_json.specs.View.{view}
use Rattle.serde_json.specs.Find.{as_bool, as_str}
use Rattle.rule_spec.specs.declared.rule_path.RulePath.TheVariants as path
use Rattle.json_spec.specs.RuleFields.{field_in}
use Rattle.rule_fields.specs.Groups.{filter_tests}
use Rattle.rule_fields.proofs.Order.{test_refused}
use Rattle.rule_fields.proofs.fields.read_filters.Goals as goal

pub returns-in_err-url_filter-clause-refused : goal.returns-in_err-url_filter-clause-refused
returns-in_err-url_filter-clause-refused c =
    let d = view c.args.condition.now.value.now in
    let p = err_from_is_err_and c.from_residual.result c.from_residual.ensures.1 in
    rw (p.1, p.2) (test_refused (field_in as_str path.UrlFilter d) (drop 1 (filter_tests d)) ⊥ c.in_err-url_filter.field-0.0 c.in_err-url_filter.ensures.refused)

pub returns-in_err-regex_filter-clause-refused : goal.returns-in_err-regex_filter-clause-refused
returns-in_err-regex_filter-clause-refused c =
    let d = view c.args.condition.now.value.now in
    let p = err_from_is_err_and c.from_residual-in_err-regex_filter.result c.from_residual-in_err-regex_filter.ensures.1 in
    rw (p.1, p.2, c.in_ok-url_filter.ensures.ok) (test_refused (field_in as_str path.RegexFilter d) (drop 2 (filter_tests d)) ⊥ c.in_err-regex_filter.field-0.0 c.in_err-regex_filter.ensures.refused)

pub returns-in_err-case_sensitive-clause-refused : goal.returns-in_err-case_sensitive-clause-refused
returns-in_err-case_sensitive-clause-refused c =
    let d = view c.args.condition.now.value.now in
    let p = err_from_is_err_and c.from_residual-in_err-case_sensitive.result c.from_residual-in_err-case_sensitive.ensures.1 in
    rw (p.1, p.2, c.in_ok-url_filter.ensures.ok, c.in_ok-regex_filter.ensures.ok) (test_refused (field_in as_bool path.IsUrlFilterCaseSensitive d) (drop 3 (filter_tests d)) ⊥ c.in_err-case_sensitive.field-0.0 c.in_err-case_sensitive.ensures.refused)
