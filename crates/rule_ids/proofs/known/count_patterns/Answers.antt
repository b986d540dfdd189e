use Rattle.std.proofs.Common.{rules, tests, ◌∙◌}
use Rattle.std.proofs.lemmas.List.Sums.{length-filter}
use Rattle.std.proofs.lemmas.Iterator.{YieldsList-from_slice}
use Rattle.std.proofs.lemmas.Iterator.Consumers.{YieldsList-from_filter, count_from_yields_List}
use Rattle.rule_ids.specs.declared.known_rule.KnownRule.{KnownRule}
use Rattle.rule_ids.proofs.known.count_patterns.Goals as goal

pub returns : goal.returns
returns c =
    count_from_yields_List c.filter.result _ c.count.ensures.ran
    (YieldsList-from_filter _ (λ (one : KnownRule). one.uses_regex) (YieldsList-from_slice c.args.known.now (cc)) c.filter.ensures.closure (λ x r q k. search (rules, tests)))
    ∙ length-filter (λ (one : KnownRule). one.uses_regex) c.args.known.now
