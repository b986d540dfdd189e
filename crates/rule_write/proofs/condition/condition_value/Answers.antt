use Rattle.std.proofs.Common.{◌≡◌, ap, ◌∙◌}
use Rattle.serde_json.specs.Data.{object}
use Rattle.serde_json.specs.View.{members_view}
use Rattle.serde_json.proofs.Views.{view-Object}
use Rattle.json_spec.specs.Written.{with_fields, filter_fields, domain_fields, kind_fields, method_fields, tab_fields, test_fields, condition_written}
use Rattle.rule_write.proofs.condition.condition_value.Goals as goal

pub returns : goal.returns
unfolding condition_written
returns c =
    let condition = c.args.condition.now in
    let filters = c.in_ok-put_filters.ensures ∙ ap (λ es. with_fields (members_view es) (filter_fields condition)) c.new-members.ensures.empty in
    let domains = c.in_ok-put_domains.ensures ∙ ap (λ ms. with_fields ms (domain_fields condition)) filters in
    let kinds = c.in_ok-put_kinds.ensures ∙ ap (λ ms. with_fields ms (kind_fields condition)) domains in
    let methods = c.in_ok-put_methods.ensures ∙ ap (λ ms. with_fields ms (method_fields condition)) kinds in
    let tabs = c.in_ok-put_tabs.ensures ∙ ap (λ ms. with_fields ms (tab_fields condition)) methods in
    let tests = c.in_ok-put_tests.ensures ∙ ap (λ ms. with_fields ms (test_fields condition)) tabs in
    view-Object c.put_tests.new.members ∙ ap object tests
