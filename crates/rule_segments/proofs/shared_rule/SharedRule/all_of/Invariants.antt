use Rattle.std.proofs.Common.{◌≡◌, ◌++◌, length}
use Rattle.std.specs.Vec.Iter.{into_iter_items, into_iter_len}
use Rattle.rule_segments.proofs.shared_rule.SharedRule.all_of.Given as goal

abbrev pub invariant-loop-rule : goal.invariant-loop-rule
invariant-loop-rule l =
    (l.shared.items ++ into_iter_items l.rule-iterator ≡ l.fn.rules.items)
    × (into_iter_len l.rule-iterator ≡ length (into_iter_items l.rule-iterator))
