use Rattle.std.proofs.Common.{◌∙◌, sym}
use Rattle.rule_index.proofs.Lists.{none_left}
use Rattle.rule_index.proofs.list_draft.ListDraft.add_all.Goals as goal

pub returns : goal.returns
returns g c =
    sym (none_left g.R.LendsRule.lent c.loop-one.self c.loop-one.left.now c.in_default.ensures.cases) ∙ c.loop-one.invariant
