use Rattle.std.proofs.Common.{◌≡◌, length}
use Rattle.index_spec.specs.Keys.{rests_of}
use Rattle.key_walk.proofs.domains.first_rest.Given as goal

abbrev pub invariant-loop-b : goal.invariant-loop-b
invariant-loop-b l = rests_of l.left ≡ rests_of l.text

abbrev pub decreases-loop-b : goal.decreases-loop-b
decreases-loop-b l = length l.left
