use Rattle.std.proofs.Common.{◌≡◌, ◌++◌, length, map}
use Rattle.std.specs.BTreeSet.{contains_text}
use Rattle.rule_index.specs.Index.{pair_for, pairs_for, once_by}
use Rattle.rule_index.proofs.drafts.add_each.Given as goal

abbrev pub invariant-loop-text : goal.invariant-loop-text
invariant-loop-text l =
    l.draft ++ map (pair_for l.needed l.place) (once_by (contains_text l.seen) l.left) ≡ l.fn.draft ++ pairs_for l.needed l.fn.texts l.place

abbrev pub decreases-loop-text : goal.decreases-loop-text
decreases-loop-text l = length l.left
