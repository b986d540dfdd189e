use Rattle.std.proofs.Common.{rules, tests}
use Rattle.std.proofs.lemmas.Iterator.{YieldsList-from_slice}
use Rattle.std.proofs.lemmas.Iterator.Consumers.{YieldsList-from_filter, count_from_yields_List}
use Rattle.ruleset_store.proofs.counts.count_enabled.Goals as goal

pub returns : goal.returns
returns c =
    count_from_yields_List c.filter.result _ c.count.ensures.ran
    (YieldsList-from_filter _ (λ set. set.enabled) (YieldsList-from_slice c.args.sets.now (cc)) c.filter.ensures.closure (λ x r q k. search (rules, tests)))
