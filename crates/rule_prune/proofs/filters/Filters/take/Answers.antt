use Rattle.std.proofs.Common.{refl, subst}
use Rattle.rule_prune.specs.Filters.{AddsGiven}
use Rattle.rule_prune.proofs.Rules.{on_ok}
use Rattle.rule_prune.proofs.Tables.{takes_in}
use Rattle.rule_prune.proofs.filters.Filters.take.Goals as goal

pub returns : goal.returns
returns c =
    let old = c.args.self.now in
    let place = c.args.place in
    on_ok c.add_given-3.result _ _
    (λ adds.
    takes_in old _ place c.args.condition.now refl c.in_ok-add_other.ensures
    (subst (λ key. AddsGiven old.patterns c.add_given.new.table key place) c.pattern_text.ensures c.in_ok-add_given.ensures)
    (subst (λ key. AddsGiven old.domains c.add_given-2.new.table key place) c.filter_domain.ensures c.in_ok-add_given-2.ensures)
    (subst (λ key. AddsGiven old.expressions c.add_given-3.new.table key place) c.expression_text.ensures adds))
    c.add_given-3.ensures
