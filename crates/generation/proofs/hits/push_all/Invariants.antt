use Rattle.std.proofs.Common.{◌≡◌, ◌++◌, length}
use Rattle.generation.specs.Hits.{hits_by}
use Rattle.generation.proofs.hits.push_all.Given as goal

abbrev pub invariant-loop-place : goal.invariant-loop-place
invariant-loop-place l = l.hits.items ++ hits_by l.places l.part ≡ l.fn.hits.items ++ hits_by l.fn.places l.part

abbrev pub decreases-loop-place : goal.decreases-loop-place
decreases-loop-place l = length l.places
