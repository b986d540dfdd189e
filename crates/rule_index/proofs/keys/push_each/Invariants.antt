use Rattle.std.proofs.Common.{◌≡◌, ◌++◌, length, map}
use Rattle.std.specs.BTreeSet.{contains_text}
use Rattle.rule_index.specs.Index.{once, once_by}
use Rattle.rule_index.specs.Kinds as spec
use Rattle.rule_index.proofs.keys.push_each.Given as goal

abbrev pub invariant-loop-text : goal.invariant-loop-text
invariant-loop-text l =
    l.keys.items ++ map (spec.key_by l.kind) (once_by (contains_text l.seen) l.left) ≡ l.fn.keys.items ++ map (spec.key_by l.kind) (once l.fn.texts)

abbrev pub decreases-loop-text : goal.decreases-loop-text
decreases-loop-text l = length l.left
