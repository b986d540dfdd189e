use Rattle.std.proofs.Common.{drop}
use Rattle.std.proofs.lemmas.Result.{err_from_is_err_and}
use Rattle.serde_json.specs.View.{view}
use Rattle.rule_spec.specs.declared.rule_path.RulePath.TheVariants as path
use Rattle.json_spec.specs.RuleFields.{as_texts, field_in, old_list_in}
use Rattle.rule_fields.specs.Groups.{domain_tests}
use Rattle.rule_fields.proofs.Order.{test_refused}
use Rattle.rule_fields.proofs.fields.read_domains.Goals as goal

pub returns-in_err-initiators-clause-refused : goal.returns-in_err-initiators-clause-refused
returns-in_err-initiators-clause-refused c =
    let d = view c.args.condition.now.value.now in
    let p = err_from_is_err_and c.from_residual.result c.from_residual.ensures.1 in
    rw (p.1, p.2) (test_refused (field_in as_texts path.InitiatorDomains d) (drop 1 (domain_tests d)) ⊥ c.in_err-initiators.field-0.0 c.in_err-initiators.ensures.refused)

pub returns-in_err-not_initiators-clause-refused : goal.returns-in_err-not_initiators-clause-refused
returns-in_err-not_initiators-clause-refused c =
    let d = view c.args.condition.now.value.now in
    let p = err_from_is_err_and c.from_residual-in_err-not_initiators.result c.from_residual-in_err-not_initiators.ensures.1 in
    rw (p.1, p.2, c.in_ok-initiators.ensures.ok) (test_refused (field_in as_texts path.ExcludedInitiatorDomains d) (drop 2 (domain_tests d)) ⊥ c.in_err-not_initiators.field-0.0 c.in_err-not_initiators.ensures.refused)

pub returns-in_err-old_initiators-clause-refused : goal.returns-in_err-old_initiators-clause-refused
returns-in_err-old_initiators-clause-refused c =
    let d = view c.args.condition.now.value.now in
    let p = err_from_is_err_and c.from_residual-in_err-old_initiators.result c.from_residual-in_err-old_initiators.ensures.1 in
    rw (p.1, p.2, c.in_ok-initiators.ensures.ok, c.in_ok-not_initiators.ensures.ok) (test_refused (old_list_in path.InitiatorDomains path.Domains d) (drop 3 (domain_tests d)) ⊥ c.in_err-old_initiators.field-0.0 c.in_err-old_initiators.ensures.refused)

pub returns-in_err-old_not_initiators-clause-refused : goal.returns-in_err-old_not_initiators-clause-refused
returns-in_err-old_not_initiators-clause-refused c =
    let d = view c.args.condition.now.value.now in
    let p = err_from_is_err_and c.from_residual-in_err-old_not_initiators.result c.from_residual-in_err-old_not_initiators.ensures.1 in
    rw (p.1, p.2, c.in_ok-initiators.ensures.ok, c.in_ok-not_initiators.ensures.ok, c.in_ok-old_initiators.ensures.ok) (test_refused (old_list_in path.ExcludedInitiatorDomains path.ExcludedDomains d) (drop 4 (domain_tests d)) ⊥ c.in_err-old_not_initiators.field-0.0 c.in_err-old_not_initiators.ensures.refused)

pub returns-in_err-hosts-clause-refused : goal.returns-in_err-hosts-clause-refused
returns-in_err-hosts-clause-refused c =
    let d = view c.args.condition.now.value.now in
    let p = err_from_is_err_and c.from_residual-in_err-hosts.result c.from_residual-in_err-hosts.ensures.1 in
    rw (p.1, p.2, c.in_ok-initiators.ensures.ok, c.in_ok-not_initiators.ensures.ok, c.in_ok-old_initiators.ensures.ok, c.in_ok-old_not_initiators.ensures.ok) (test_refused (field_in as_texts path.RequestDomains d) (drop 5 (domain_tests d)) ⊥ c.in_err-hosts.field-0.0 c.in_err-hosts.ensures.refused)

pub returns-in_err-not_hosts-clause-refused : goal.returns-in_err-not_hosts-clause-refused
returns-in_err-not_hosts-clause-refused c =
    let d = view c.args.condition.now.value.now in
    let p = err_from_is_err_and c.from_residual-in_err-not_hosts.result c.from_residual-in_err-not_hosts.ensures.1 in
    rw (p.1, p.2, c.in_ok-initiators.ensures.ok, c.in_ok-not_initiators.ensures.ok, c.in_ok-old_initiators.ensures.ok, c.in_ok-old_not_initiators.ensures.ok, c.in_ok-hosts.ensures.ok) (test_refused (field_in as_texts path.ExcludedRequestDomains d) (drop 6 (domain_tests d)) ⊥ c.in_err-not_hosts.field-0.0 c.in_err-not_hosts.ensures.refused)
