use Rattle.std.proofs.Common.{refl, sym, ap, ◌∙◌}
use Rattle.std.specs.Prelude.{codes}
use Rattle.std.proofs.lemmas.Result.{err_from_is_err_and}
use Rattle.serde_json.specs.View.{view}
use Rattle.serde_json.specs.Find.{as_object}
use Rattle.rule_spec.specs.Redirects.{is_new_host, is_new_port, is_new_path, is_new_query, is_new_fragment}
use Rattle.rule_spec.specs.declared.rule_refusal.RuleRefusal.TheVariants.{BadTransform}
use Rattle.json_spec.specs.RuleFields.{refused_if}
use Rattle.json_spec.specs.RuleAction.{as_new_scheme, tested_text, short_text, as_changes, part_in}
use Rattle.action_read.proofs.TransformTests.{tests_begin, passes_test, passes_part, fails_test, fails_part, tests_end, object_passes, other_fails}
use Rattle.action_read.proofs.transforms.read_transform.Goals as goal

pub returns-then-not-is_object-clause-refused : goal.returns-then-not-is_object-clause-refused
returns-then-not-is_object-clause-refused c =
    let d = view c.args.value.now in
    fails_test (other_fails (as_object d) (sym c.is_object.ensures ∙ c.if-not-is_object.true)) (tests_begin d)

pub returns-in_err-scheme-clause-refused : goal.returns-in_err-scheme-clause-refused
returns-in_err-scheme-clause-refused c =
    let d = view c.args.value.now in
    let s0 = passes_test (object_passes (as_object d) (sym c.is_object.ensures ∙ c.if-not-is_object.false)) (tests_begin d) in
    let p = err_from_is_err_and c.from_residual.result c.from_residual.ensures.1 in
    rw (p.1, p.2)
    (fails_part (part_in as_new_scheme (codes "scheme") d) c.in_err-scheme.field-0.0 s0 c.in_err-scheme.ensures.refused)

pub returns-in_err-new_host-clause-refused : goal.returns-in_err-new_host-clause-refused
returns-in_err-new_host-clause-refused c =
    let d = view c.args.value.now in
    let s0 = passes_test (object_passes (as_object d) (sym c.is_object.ensures ∙ c.if-not-is_object.false)) (tests_begin d) in
    let s1 = passes_part c.in_ok-scheme.ensures.ok s0 in
    let p = err_from_is_err_and c.from_residual-in_err-new_host.result c.from_residual-in_err-new_host.ensures.1 in
    rw (p.1, p.2)
    (fails_part (part_in (tested_text is_new_host) (codes "host") d) c.in_err-new_host.field-0.0 s1 c.in_err-new_host.ensures.refused)

pub returns-in_err-port-clause-refused : goal.returns-in_err-port-clause-refused
returns-in_err-port-clause-refused c =
    let d = view c.args.value.now in
    let s0 = passes_test (object_passes (as_object d) (sym c.is_object.ensures ∙ c.if-not-is_object.false)) (tests_begin d) in
    let s1 = passes_part c.in_ok-scheme.ensures.ok s0 in
    let s2 = passes_part c.in_ok-new_host.ensures.ok s1 in
    let p = err_from_is_err_and c.from_residual-in_err-port.result c.from_residual-in_err-port.ensures.1 in
    rw (p.1, p.2)
    (fails_part (part_in (tested_text is_new_port) (codes "port") d) c.in_err-port.field-0.0 s2 c.in_err-port.ensures.refused)

pub returns-in_err-path-clause-refused : goal.returns-in_err-path-clause-refused
returns-in_err-path-clause-refused c =
    let d = view c.args.value.now in
    let s0 = passes_test (object_passes (as_object d) (sym c.is_object.ensures ∙ c.if-not-is_object.false)) (tests_begin d) in
    let s1 = passes_part c.in_ok-scheme.ensures.ok s0 in
    let s2 = passes_part c.in_ok-new_host.ensures.ok s1 in
    let s3 = passes_part c.in_ok-port.ensures.ok s2 in
    let p = err_from_is_err_and c.from_residual-in_err-path.result c.from_residual-in_err-path.ensures.1 in
    rw (p.1, p.2)
    (fails_part (part_in (tested_text is_new_path) (codes "path") d) c.in_err-path.field-0.0 s3 c.in_err-path.ensures.refused)

pub returns-in_err-query-clause-refused : goal.returns-in_err-query-clause-refused
returns-in_err-query-clause-refused c =
    let d = view c.args.value.now in
    let s0 = passes_test (object_passes (as_object d) (sym c.is_object.ensures ∙ c.if-not-is_object.false)) (tests_begin d) in
    let s1 = passes_part c.in_ok-scheme.ensures.ok s0 in
    let s2 = passes_part c.in_ok-new_host.ensures.ok s1 in
    let s3 = passes_part c.in_ok-port.ensures.ok s2 in
    let s4 = passes_part c.in_ok-path.ensures.ok s3 in
    let p = err_from_is_err_and c.from_residual-in_err-query.result c.from_residual-in_err-query.ensures.1 in
    rw (p.1, p.2)
    (fails_part (part_in (tested_text is_new_query) (codes "query") d) c.in_err-query.field-0.0 s4 c.in_err-query.ensures.refused)

pub returns-in_err-query_transform-clause-refused : goal.returns-in_err-query_transform-clause-refused
returns-in_err-query_transform-clause-refused c =
    let d = view c.args.value.now in
    let s0 = passes_test (object_passes (as_object d) (sym c.is_object.ensures ∙ c.if-not-is_object.false)) (tests_begin d) in
    let s1 = passes_part c.in_ok-scheme.ensures.ok s0 in
    let s2 = passes_part c.in_ok-new_host.ensures.ok s1 in
    let s3 = passes_part c.in_ok-port.ensures.ok s2 in
    let s4 = passes_part c.in_ok-path.ensures.ok s3 in
    let s5 = passes_part c.in_ok-query.ensures.ok s4 in
    let p = err_from_is_err_and c.from_residual-in_err-query_transform.result c.from_residual-in_err-query_transform.ensures.1 in
    rw (p.1, p.2)
    (fails_part (part_in as_changes (codes "queryTransform") d) c.in_err-query_transform.field-0.0 s5 c.in_err-query_transform.ensures.refused)

pub returns-then-has_two_queries-clause-refused : goal.returns-then-has_two_queries-clause-refused
returns-then-has_two_queries-clause-refused c =
    let d = view c.args.value.now in
    let s0 = passes_test (object_passes (as_object d) (sym c.is_object.ensures ∙ c.if-not-is_object.false)) (tests_begin d) in
    let s1 = passes_part c.in_ok-scheme.ensures.ok s0 in
    let s2 = passes_part c.in_ok-new_host.ensures.ok s1 in
    let s3 = passes_part c.in_ok-port.ensures.ok s2 in
    let s4 = passes_part c.in_ok-path.ensures.ok s3 in
    let s5 = passes_part c.in_ok-query.ensures.ok s4 in
    let s6 = passes_part c.in_ok-query_transform.ensures.ok s5 in
    fails_test (ap (λ two. refused_if two BadTransform) (sym c.has_two_queries.ensures ∙ c.if-has_two_queries.true)) s6

pub returns-in_err-fragment-clause-refused : goal.returns-in_err-fragment-clause-refused
returns-in_err-fragment-clause-refused c =
    let d = view c.args.value.now in
    let s0 = passes_test (object_passes (as_object d) (sym c.is_object.ensures ∙ c.if-not-is_object.false)) (tests_begin d) in
    let s1 = passes_part c.in_ok-scheme.ensures.ok s0 in
    let s2 = passes_part c.in_ok-new_host.ensures.ok s1 in
    let s3 = passes_part c.in_ok-port.ensures.ok s2 in
    let s4 = passes_part c.in_ok-path.ensures.ok s3 in
    let s5 = passes_part c.in_ok-query.ensures.ok s4 in
    let s6 = passes_part c.in_ok-query_transform.ensures.ok s5 in
    let s7 = passes_test (ap (λ two. refused_if two BadTransform) (sym c.has_two_queries.ensures ∙ c.if-has_two_queries.false)) s6 in
    let p = err_from_is_err_and c.from_residual-in_err-fragment.result c.from_residual-in_err-fragment.ensures.1 in
    rw (p.1, p.2)
    (fails_part (part_in (tested_text is_new_fragment) (codes "fragment") d) c.in_err-fragment.field-0.0 s7 c.in_err-fragment.ensures.refused)

pub returns-in_err-username-clause-refused : goal.returns-in_err-username-clause-refused
returns-in_err-username-clause-refused c =
    let d = view c.args.value.now in
    let s0 = passes_test (object_passes (as_object d) (sym c.is_object.ensures ∙ c.if-not-is_object.false)) (tests_begin d) in
    let s1 = passes_part c.in_ok-scheme.ensures.ok s0 in
    let s2 = passes_part c.in_ok-new_host.ensures.ok s1 in
    let s3 = passes_part c.in_ok-port.ensures.ok s2 in
    let s4 = passes_part c.in_ok-path.ensures.ok s3 in
    let s5 = passes_part c.in_ok-query.ensures.ok s4 in
    let s6 = passes_part c.in_ok-query_transform.ensures.ok s5 in
    let s7 = passes_test (ap (λ two. refused_if two BadTransform) (sym c.has_two_queries.ensures ∙ c.if-has_two_queries.false)) s6 in
    let s8 = passes_part c.in_ok-fragment.ensures.ok s7 in
    let p = err_from_is_err_and c.from_residual-in_err-username.result c.from_residual-in_err-username.ensures.1 in
    rw (p.1, p.2)
    (fails_part (part_in short_text (codes "username") d) c.in_err-username.field-0.0 s8 c.in_err-username.ensures.refused)

pub returns-in_err-password-clause-refused : goal.returns-in_err-password-clause-refused
returns-in_err-password-clause-refused c =
    let d = view c.args.value.now in
    let s0 = passes_test (object_passes (as_object d) (sym c.is_object.ensures ∙ c.if-not-is_object.false)) (tests_begin d) in
    let s1 = passes_part c.in_ok-scheme.ensures.ok s0 in
    let s2 = passes_part c.in_ok-new_host.ensures.ok s1 in
    let s3 = passes_part c.in_ok-port.ensures.ok s2 in
    let s4 = passes_part c.in_ok-path.ensures.ok s3 in
    let s5 = passes_part c.in_ok-query.ensures.ok s4 in
    let s6 = passes_part c.in_ok-query_transform.ensures.ok s5 in
    let s7 = passes_test (ap (λ two. refused_if two BadTransform) (sym c.has_two_queries.ensures ∙ c.if-has_two_queries.false)) s6 in
    let s8 = passes_part c.in_ok-fragment.ensures.ok s7 in
    let s9 = passes_part c.in_ok-username.ensures.ok s8 in
    let p = err_from_is_err_and c.from_residual-in_err-password.result c.from_residual-in_err-password.ensures.1 in
    rw (p.1, p.2)
    (fails_part (part_in short_text (codes "password") d) c.in_err-password.field-0.0 s9 c.in_err-password.ensures.refused)

pub returns-clause-ok : goal.returns-clause-ok
returns-clause-ok c =
    let d = view c.args.value.now in
    let s0 = passes_test (object_passes (as_object d) (sym c.is_object.ensures ∙ c.if-not-is_object.false)) (tests_begin d) in
    let s1 = passes_part c.in_ok-scheme.ensures.ok s0 in
    let s2 = passes_part c.in_ok-new_host.ensures.ok s1 in
    let s3 = passes_part c.in_ok-port.ensures.ok s2 in
    let s4 = passes_part c.in_ok-path.ensures.ok s3 in
    let s5 = passes_part c.in_ok-query.ensures.ok s4 in
    let s6 = passes_part c.in_ok-query_transform.ensures.ok s5 in
    let s7 = passes_test (ap (λ two. refused_if two BadTransform) (sym c.has_two_queries.ensures ∙ c.if-has_two_queries.false)) s6 in
    let s8 = passes_part c.in_ok-fragment.ensures.ok s7 in
    let s9 = passes_part c.in_ok-username.ensures.ok s8 in
    let s10 = passes_part c.in_ok-password.ensures.ok s9 in
    tests_end s10
    ∙ rw (c.in_ok-scheme.ensures.ok, c.in_ok-new_host.ensures.ok, c.in_ok-port.ensures.ok, c.in_ok-path.ensures.ok, c.in_ok-query.ensures.ok, c.in_ok-query_transform.ensures.ok, c.in_ok-fragment.ensures.ok, c.in_ok-username.ensures.ok, c.in_ok-password.ensures.ok, c.in_ok-host.ensures) refl
