use Rattle.std.proofs.Common.{List, ◌∙◌, ap, filter, reverse, rules}
use Rattle.std.specs.Prelude.{nat_le}
use Rattle.std.specs.List.Sorted.{ties}
use Rattle.std.proofs.lemmas.List.Sorted.{answers_always}
use Rattle.rule_spec.specs.Scan.{comes_before}
use Rattle.rule_spec.specs.State.{Live}
use Rattle.generation.proofs.Ordered.{order_of_rules, rules_in_order}
use Rattle.generation.proofs.sorted.sorted.Goals as goal

pub returns : goal.returns
returns c =
    let list : List Live = filter (λ live. nat_le c.args.allowed live.rule.priority) c.args.lives.now in
    rules_in_order list c.sort_by.new.self.items
    (c.in_ok-sort_by.ensures.sorted comes_before order_of_rules (answers_always _ _ _ (λ f a r g h. search rules)))
    (λ z.
    c.sort_by.ensures.stable comes_before order_of_rules (answers_always _ _ _ (λ f a r g h. search rules)) z
    ∙ ap (filter (ties comes_before z)) (c.last_first-sorted.ensures ∙ ap reverse c.in_ok-list.ensures))
