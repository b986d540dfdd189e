use Rattle.std.proofs.Common.{sym, ap, ◌∙◌, flat_map}
use Rattle.std.proofs.lemmas.List.{take_all}
use Rattle.rule_prune.specs.Walks.{removal_of}
use Rattle.rule_prune.proofs.Walked.{removals_walked}
use Rattle.rule_prune.proofs.finds.removals_of.Goals as goal

pub returns : goal.returns
returns c =
    let rules = c.args.rules.now in
    c.loop-place.invariant ∙ ap (flat_map (removal_of rules)) (take_all c.loop-place.place rules c.loop-place-test.false) ∙ sym (removals_walked rules)
