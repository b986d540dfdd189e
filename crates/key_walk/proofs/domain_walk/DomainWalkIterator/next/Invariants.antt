use Rattle.std.proofs.Common.{◌≡◌, [], length}
use Rattle.key_walk.specs.Over.{near_each}
use Rattle.key_walk.proofs.domain_walk.DomainWalkIterator.next.Given as goal

abbrev pub invariant-loop-domain : goal.invariant-loop-domain
invariant-loop-domain l = record {
  places : l.self-inside.places ≡ [];
  left : near_each l.self-inside.table.now l.self-inside.shown l.self-inside.domains
      ≡ near_each l.initial.self-inside.table.now l.initial.self-inside.shown l.initial.self-inside.domains;
}

abbrev pub decreases-loop-domain : goal.decreases-loop-domain
decreases-loop-domain l = length l.self-inside.domains
