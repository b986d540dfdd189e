use Rattle.std.proofs.Common.{[], None, ap, ◌∙◌}
use Rattle.std.specs.Prelude.{is_some}
use Rattle.rule_prune.specs.Filters.{candidates, keeps, nearest}
use Rattle.rule_prune.proofs.Sought.{needless_found}
use Rattle.rule_prune.proofs.finds.is_needless.Goals as goal

pub returns : goal.returns
returns c =
    let rules = c.args.rules.now in
    let filters = c.args.filters.now in
    let first = c.first.ensures ∙ ap (λ its. nearest (keeps rules [] c.args.place) None (candidates filters its)) c.condition.ensures.value in
    c.is_some.ensures ∙ ap is_some first ∙ needless_found rules filters c.requires.listed c.args.place c.args.s.now c.requires.there
