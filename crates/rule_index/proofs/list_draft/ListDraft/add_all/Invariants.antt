use Rattle.std.proofs.Common.{◌≡◌, fold, length, map}
use Rattle.rule_index.specs.Lists as spec
use Rattle.rule_index.proofs.list_draft.ListDraft.add_all.Given as goal

abbrev pub invariant-loop-one : goal.invariant-loop-one
invariant-loop-one g l = fold spec.with_next l.self (map g.R.LendsRule.lent l.left) ≡ fold spec.with_next l.fn.self (map g.R.LendsRule.lent l.fn.rules)

abbrev pub decreases-loop-one : goal.decreases-loop-one
decreases-loop-one g l = length l.left
