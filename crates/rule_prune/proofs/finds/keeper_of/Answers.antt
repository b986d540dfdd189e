use Rattle.std.proofs.Common.{None, sym, ap, ◌∙◌}
use Rattle.std.specs.Prelude.{option_and_then}
use Rattle.std.specs.List.{slice_get}
use Rattle.std.specs.Option.{option_copied}
use Rattle.rule_prune.specs.Filters.{candidates, keeps, nearest}
use Rattle.rule_prune.proofs.Sought.{keeper_found}
use Rattle.rule_prune.proofs.finds.keeper_of.Goals as goal

pub returns-in_err-first : goal.returns-in_err-first
returns-in_err-first c =
    let rules = c.args.rules.now in
    let filters = c.args.filters.now in
    let first = c.first.ensures ∙ (λ i. nearest (keeps rules (c.requires.needless i) c.args.place) None (candidates filters (c.condition.ensures.value i))) in
    ap option_copied c.from_residual.ensures
    ∙ ap (option_and_then (slice_get rules)) (sym c.in_err-first.was ∙ first)
    ∙ keeper_found rules filters c.requires.listed c.args.place c.args.s.now c.requires.there

pub returns : goal.returns
returns c =
    let rules = c.args.rules.now in
    let filters = c.args.filters.now in
    let first = c.first.ensures ∙ (λ i. nearest (keeps rules (c.requires.needless i) c.args.place) None (candidates filters (c.condition.ensures.value i))) in
    c.rule_at.ensures
    ∙ ap (option_and_then (slice_get rules)) (sym c.in_ok-first.was ∙ first)
    ∙ keeper_found rules filters c.requires.listed c.args.place c.args.s.now c.requires.there
