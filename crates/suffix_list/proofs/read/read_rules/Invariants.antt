use Rattle.std.proofs.Common.{◌≡◌, eqb, length, map}
use Rattle.std.specs.List.{slice_split}
use Rattle.suffix_list.specs.Kept.{seen}
use Rattle.suffix_list.proofs.Text.{IsReadSoFar}
use Rattle.suffix_list.proofs.read.read_rules.Given as goal

abbrev pub invariant-loop-line : goal.invariant-loop-line
invariant-loop-line l =
    (goal.iterator-loop-line).can_next l.line-iterator ×
    (goal.iterator-loop-line).is_finite l.line-iterator
    × (l.number ≡ length l.yielded)
    × IsReadSoFar (slice_split (λ b. eqb b 10) l.text) (length l.yielded) l.too_many (map seen l.rules.items)
