use Rattle.std.proofs.Common.{◌≡◌, ◌<◌, ℕ, List, length, get_or, max, ap, ◌∙◌, arith}
use Rattle.dnr_spec.specs.Hosts.{labels_of}
use Rattle.suffix_list.specs.Kept.{is_other, places_from, is_matching_exception, is_matching_rule}
use Rattle.suffix_list.proofs.Places.{places-below, longest_step, longest_end}
use Rattle.suffix_list.proofs.tables.longest_others.Goals as goal

pub rule_at-rule-requires : goal.rule_at-rule-requires
rule_at-rule-requires c =
    let same : length c.args.others.now ≡ length (places_from is_other 0 c.args.rules.now) = ap (λ (ns : List ℕ). length ns) c.requires in
    let here : get_or c.args.others.now c.loop-place.place-index 0 ≡ get_or (places_from is_other 0 c.args.rules.now) c.loop-place.place-index 0 = ap (λ (ns : List ℕ). get_or ns c.loop-place.place-index 0) c.requires in
    let below = places-below is_other 0 c.args.rules.now c.loop-place.place-index (omega arith) in
    omega arith

pub loop-place-preserved : goal.loop-place-preserved
loop-place-preserved c =
    let within : c.loop-place.place-index < length c.args.others.now = omega arith in (
      c.max-exceptions.ensures ∙ ap (λ n. max n c.loop-place.exceptions) c.exception_len.ensures ∙ longest_step (is_matching_exception (labels_of c.args.name.now)) c.args.rules.now c.args.others.now c.loop-place.place-index c.rule_at-rule.result.now c.loop-place.exceptions within c.rule_at-rule.ensures c.loop-place.invariant.0,
      c.max-plain.ensures ∙ ap (λ n. max n c.loop-place.plain) c.rule_len.ensures ∙ longest_step (is_matching_rule (labels_of c.args.name.now)) c.args.rules.now c.args.others.now c.loop-place.place-index c.rule_at-rule.result.now c.loop-place.plain within c.rule_at-rule.ensures c.loop-place.invariant.1,
    )

pub returns-clause-exceptions : goal.returns-clause-exceptions
returns-clause-exceptions c = longest_end (is_matching_exception (labels_of c.args.name.now)) c.args.rules.now c.args.others.now c.loop-place.place-index c.loop-place.exceptions c.requires (omega arith) c.loop-place.invariant.0

pub returns-clause-rules : goal.returns-clause-rules
returns-clause-rules c = longest_end (is_matching_rule (labels_of c.args.name.now)) c.args.rules.now c.args.others.now c.loop-place.place-index c.loop-place.plain c.requires (omega arith) c.loop-place.invariant.1
