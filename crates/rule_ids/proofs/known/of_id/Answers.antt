use Rattle.std.proofs.Common.{arith, ◌∙◌}
use Rattle.std.proofs.lemmas.Bool.Decides.{nat_tests}
use Rattle.rule_ids.specs.Counted.{has_known_id}
use Rattle.rule_ids.proofs.Ranges.{passes_between}
use Rattle.rule_ids.proofs.known.of_id.Goals as goal

pub returns : goal.returns
returns c =
    let first = c.start_of-start.ensures in
    let last = c.end_of.ensures in
    c.part.ensures ∙ passes_between (has_known_id c.args.id) c.args.known.now c.start_of-start.result c.max-end.result (omega arith) (omega arith)
    (λ k d lt. grind (arith, nat_tests, first.below k d lt))
    (λ k d from lt. grind (arith, nat_tests, first.behind k d from (omega arith), last.below k d (omega arith)))
    (λ k d from lt. grind (arith, nat_tests, last.behind k d (omega arith) lt))
