use Rattle.std.proofs.Common.{arith, ◌∙◌}
use Rattle.std.proofs.lemmas.Str.Pattern.{split_parts}
use Rattle.regex_host.proofs.Substitutions.{expansion_step, literal_expansion, escape_ends, text_behind, joined}
use Rattle.regex_host.proofs.substitution.Substitution.expand.Goals as goal

pub written-requires-clause-some : goal.written-requires-clause-some
written-requires-clause-some c =
    let parts = split_parts 92 c.loop-literal.rest.now c.split_once.result c.split_once.ensures.cases (omega arith) in
    let here = rw c.in-Some.is at parts in
    (expansion_step c.args.text.now c.args.spans.now _ _ _ here.0 here.1 c.loop-literal.invariant.1).0

pub written-requires-clause-escaped : goal.written-requires-clause-escaped
written-requires-clause-escaped c =
    let parts = split_parts 92 c.loop-literal.rest.now c.split_once.result c.split_once.ensures.cases (omega arith) in
    let here = rw c.in-Some.is at parts in
    (expansion_step c.args.text.now c.args.spans.now _ _ _ here.0 here.1 c.loop-literal.invariant.1).1.escape_is

pub range_from-rest-requires : goal.range_from-rest-requires
range_from-rest-requires c =
    let parts = split_parts 92 c.loop-literal.rest.now c.split_once.result c.split_once.ensures.cases (omega arith) in
    let here = rw c.in-Some.is at parts in
    let step = expansion_step c.args.text.now c.args.spans.now _ _ _ here.0 here.1 c.loop-literal.invariant.1 in
    λ _. escape_ends 9 c.in-Some.behind.now (text_behind _ _ _ here.0 c.loop-literal.invariant.0) step.0 step.1.escape_is

pub loop-literal-preserved : goal.loop-literal-preserved
loop-literal-preserved c =
    let parts = split_parts 92 c.loop-literal.rest.now c.split_once.result c.split_once.ensures.cases (omega arith) in
    let here = rw c.in-Some.is at parts in
    let step = expansion_step c.args.text.now c.args.spans.now _ _ _ here.0 here.1 c.loop-literal.invariant.1 in
    let first = c.in_ok-push_str.ensures.bytes in
    let second = c.in_ok-push_str-2.ensures.bytes in
    let e = step.1.written_is c.written.result.now c.written.ensures in
    (c.range_from-rest.utf8, rw c.range_from-rest.ensures.value step.1.behind_is, rw c.range_from-rest.ensures.value (joined _ _ _ _ _ _ _ _ first second e c.loop-literal.invariant.2))

pub returns : goal.returns
returns c =
    let parts = split_parts 92 c.loop-literal.rest.now c.split_once.result c.split_once.ensures.cases (omega arith) in
    let plain = rw c.in_default.is at parts in
    let last = rw (literal_expansion c.args.text.now c.args.spans.now c.loop-literal.rest.now plain) at c.loop-literal.invariant.2 in
    c.build.ensures ∙ c.in_ok-push_str-3.ensures.bytes ∙ last
