use Rattle.std.proofs.Common.{◌≡◌, [], ◌++◌, None, drop, refl}
use Rattle.std.proofs.lemmas.Result.{err_from_is_err_and}
use Rattle.serde_json.specs.View.{view}
use Rattle.json_spec.specs.RuleFields.{first_refusal, field_tests, fields_of, fields_in}
use Rattle.rule_fields.specs.Groups.{forbidden_tests, filter_tests, domain_tests, set_tests, response_tests}
use Rattle.rule_fields.proofs.Order.{group_refused}
use Rattle.rule_fields.proofs.fields.read_told.Goals as goal

pub returns-in_err-test_forbidden-clause-refused : goal.returns-in_err-test_forbidden-clause-refused
unfolding fields_in
returns-in_err-test_forbidden-clause-refused c =
    let d = view c.args.condition.now.value.now in
    let passed : first_refusal ([]) ≡ None = refl in
    let p = err_from_is_err_and c.from_residual.result c.from_residual.ensures.1 in
    rw (p.1, p.2) (group_refused ([]) (forbidden_tests d) (drop 2 (field_tests d)) (fields_of d) ⊥ c.in_err-test_forbidden.field-0.0 passed c.in_err-test_forbidden.ensures.refused)

pub returns-in_err-filters-clause-refused : goal.returns-in_err-filters-clause-refused
unfolding fields_in
returns-in_err-filters-clause-refused c =
    let d = view c.args.condition.now.value.now in
    let passed : first_refusal (forbidden_tests d) ≡ None = rw (c.in_ok-test_forbidden.ensures.absent.top, c.in_ok-test_forbidden.ensures.absent.not_top) in
    let p = err_from_is_err_and c.from_residual-in_err-filters.result c.from_residual-in_err-filters.ensures.1 in
    rw (p.1, p.2) (group_refused (forbidden_tests d) (filter_tests d) (drop 5 (field_tests d)) (fields_of d) ⊥ c.in_err-filters.field-0.0 passed c.in_err-filters.ensures.refused)

pub returns-in_err-domains-clause-refused : goal.returns-in_err-domains-clause-refused
unfolding fields_in
returns-in_err-domains-clause-refused c =
    let d = view c.args.condition.now.value.now in
    let passed : first_refusal (forbidden_tests d ++ filter_tests d) ≡ None = rw (c.in_ok-test_forbidden.ensures.absent.top, c.in_ok-test_forbidden.ensures.absent.not_top, c.in_ok-filters.ensures.read.url_filter, c.in_ok-filters.ensures.read.regex_filter, c.in_ok-filters.ensures.read.case) in
    let p = err_from_is_err_and c.from_residual-in_err-domains.result c.from_residual-in_err-domains.ensures.1 in
    rw (p.1, p.2) (group_refused (forbidden_tests d ++ filter_tests d) (domain_tests d) (drop 11 (field_tests d)) (fields_of d) ⊥ c.in_err-domains.field-0.0 passed c.in_err-domains.ensures.refused)

pub returns-in_err-sets-clause-refused : goal.returns-in_err-sets-clause-refused
unfolding fields_in
returns-in_err-sets-clause-refused c =
    let d = view c.args.condition.now.value.now in
    let passed : first_refusal (forbidden_tests d ++ filter_tests d ++ domain_tests d) ≡ None = rw (c.in_ok-test_forbidden.ensures.absent.top, c.in_ok-test_forbidden.ensures.absent.not_top, c.in_ok-filters.ensures.read.url_filter, c.in_ok-filters.ensures.read.regex_filter, c.in_ok-filters.ensures.read.case, c.in_ok-domains.ensures.read.initiators, c.in_ok-domains.ensures.read.not_initiators, c.in_ok-domains.ensures.read.old_initiators, c.in_ok-domains.ensures.read.old_not_initiators, c.in_ok-domains.ensures.read.hosts, c.in_ok-domains.ensures.read.not_hosts) in
    let p = err_from_is_err_and c.from_residual-in_err-sets.result c.from_residual-in_err-sets.ensures.1 in
    rw (p.1, p.2) (group_refused (forbidden_tests d ++ filter_tests d ++ domain_tests d) (set_tests d) (drop 18 (field_tests d)) (fields_of d) ⊥ c.in_err-sets.field-0.0 passed c.in_err-sets.ensures.refused)

pub returns-in_err-response-clause-refused : goal.returns-in_err-response-clause-refused
unfolding fields_in
returns-in_err-response-clause-refused c =
    let d = view c.args.condition.now.value.now in
    let passed : first_refusal (forbidden_tests d ++ filter_tests d ++ domain_tests d ++ set_tests d) ≡ None = rw (c.in_ok-test_forbidden.ensures.absent.top, c.in_ok-test_forbidden.ensures.absent.not_top, c.in_ok-filters.ensures.read.url_filter, c.in_ok-filters.ensures.read.regex_filter, c.in_ok-filters.ensures.read.case, c.in_ok-domains.ensures.read.initiators, c.in_ok-domains.ensures.read.not_initiators, c.in_ok-domains.ensures.read.old_initiators, c.in_ok-domains.ensures.read.old_not_initiators, c.in_ok-domains.ensures.read.hosts, c.in_ok-domains.ensures.read.not_hosts, c.in_ok-sets.ensures.read.third_party, c.in_ok-sets.ensures.read.kinds, c.in_ok-sets.ensures.read.not_kinds, c.in_ok-sets.ensures.read.methods, c.in_ok-sets.ensures.read.not_methods, c.in_ok-sets.ensures.read.tabs, c.in_ok-sets.ensures.read.not_tabs) in
    let p = err_from_is_err_and c.from_residual-in_err-response.result c.from_residual-in_err-response.ensures.1 in
    rw (p.1, p.2) (group_refused (forbidden_tests d ++ filter_tests d ++ domain_tests d ++ set_tests d) (response_tests d) (drop 20 (field_tests d)) (fields_of d) ⊥ c.in_err-response.field-0.0 passed c.in_err-response.ensures.refused)

pub returns-clause-ok : goal.returns-clause-ok
unfolding fields_in
returns-clause-ok c = rw (c.in_ok-test_forbidden.ensures.absent.top, c.in_ok-test_forbidden.ensures.absent.not_top, c.in_ok-filters.ensures.read.url_filter, c.in_ok-filters.ensures.read.regex_filter, c.in_ok-filters.ensures.read.case, c.in_ok-domains.ensures.read.initiators, c.in_ok-domains.ensures.read.not_initiators, c.in_ok-domains.ensures.read.old_initiators, c.in_ok-domains.ensures.read.old_not_initiators, c.in_ok-domains.ensures.read.hosts, c.in_ok-domains.ensures.read.not_hosts, c.in_ok-sets.ensures.read.third_party, c.in_ok-sets.ensures.read.kinds, c.in_ok-sets.ensures.read.not_kinds, c.in_ok-sets.ensures.read.methods, c.in_ok-sets.ensures.read.not_methods, c.in_ok-sets.ensures.read.tabs, c.in_ok-sets.ensures.read.not_tabs, c.in_ok-response.ensures.read.tests, c.in_ok-response.ensures.read.not_tests)
