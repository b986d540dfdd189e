use Rattle.std.proofs.Common.{◌≡◌, fold, take}
use Rattle.rule_index.specs.Lists.{empty_draft, with_next}
use Rattle.ruleset_store.specs.StaticIndex.{lists_of, rules_among}
use Rattle.ruleset_store.proofs.static_index.index_of.Given as goal

abbrev pub invariant-loop-set : goal.invariant-loop-set
invariant-loop-set l = l.draft ≡ fold with_next empty_draft (rules_among (lists_of (take l.set-index l.sets)))
