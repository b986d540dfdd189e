use Rattle.std.proofs.Common.{◌≡◌, length}
use Rattle.std.specs.Ordering.{nat_cmp}
use Rattle.std.specs.Cmp.Lexicographic.{slice_cmp}
use Rattle.key_table.specs.Asked.{asked_text}
use Rattle.key_table.proofs.order.compare_keys.Given as goal

abbrev pub invariant-loop-first : goal.invariant-loop-first
invariant-loop-first l = slice_cmp nat_cmp l.own (asked_text l.asked-inside.fold l.left) ≡ slice_cmp nat_cmp l.fn.key l.fn.asked

abbrev pub decreases-loop-first : goal.decreases-loop-first
decreases-loop-first l = length l.own
