use Rattle.std.proofs.Common.{sym, ap, ◌∙◌, ◌++◌}
use Rattle.prune_spec.specs.Pruned.{named_by}
use Rattle.rule_prune.proofs.Rules.{on_ok}
use Rattle.rule_prune.proofs.Walked.{gone_is, none_removed, one_removed}
use Rattle.rule_prune.proofs.finds.add_removal.Goals as goal

pub returns-then-is_gone : goal.returns-then-is_gone
returns-then-is_gone c =
    let rules = c.args.rules.now in
    let s = c.args.s.now in
    let before = c.args.removals.now.items in
    let needless = sym (gone_is rules c.args.needless.now c.requires.needless c.args.place s c.requires.there) ∙ sym c.is_gone.ensures ∙ c.if-is_gone.true in
    on_ok c.push_named.result _ _ (λ pushed. pushed ∙ ap (λ l. before ++ l) (ap (named_by s) c.keeper_of.ensures ∙ sym (one_removed rules s needless))) c.push_named.ensures

pub returns : goal.returns
returns c =
    let rules = c.args.rules.now in
    let s = c.args.s.now in
    none_removed rules s c.args.removals.now.items
    (sym (gone_is rules c.args.needless.now c.requires.needless c.args.place s c.requires.there) ∙ sym c.is_gone.ensures ∙ c.if-is_gone.false)
