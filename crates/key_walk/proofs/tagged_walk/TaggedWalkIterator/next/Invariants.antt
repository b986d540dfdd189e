use Rattle.std.proofs.Common.{◌≡◌, ◌-◌, ◌<◌, ◌^◌, [], length, take, drop}
use Rattle.key_walk.specs.Met.{places_behind}
use Rattle.key_walk.proofs.tagged_walk.TaggedWalkIterator.next.Given as goal

abbrev pub invariant-loop-word : goal.invariant-loop-word
invariant-loop-word l = record {
  places : l.self-inside.places ≡ [];
  few : length l.self-inside.words.now < 2 ^ 63;
  left : places_behind l.self-inside.table.now l.self-inside.shown (take l.self-inside.passed l.self-inside.words.now) (drop l.self-inside.passed l.self-inside.words.now)
      ≡ places_behind l.initial.self-inside.table.now l.initial.self-inside.shown (take l.initial.self-inside.passed l.initial.self-inside.words.now) (drop l.initial.self-inside.passed l.initial.self-inside.words.now);
}

abbrev pub decreases-loop-word : goal.decreases-loop-word
decreases-loop-word l = length l.self-inside.words.now - l.self-inside.passed
