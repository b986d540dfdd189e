use Rattle.std.proofs.Common.{◌≡◌, take}
use Rattle.ruleset_store.proofs.rule_set.lists_again.Given as goal

abbrev pub invariant-loop-list : goal.invariant-loop-list
invariant-loop-list l = l.copies.items ≡ take l.list-index l.lists
