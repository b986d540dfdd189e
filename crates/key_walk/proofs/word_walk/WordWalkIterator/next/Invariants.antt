use Rattle.std.proofs.Common.{◌≡◌, ◌<◌, ◌^◌, [], length, take, drop}
use Rattle.key_walk.specs.Met.{places_behind}
use Rattle.index_spec.specs.Words.{words_of}
use Rattle.key_walk.proofs.word_walk.WordWalkIterator.next.Given as goal

abbrev pub invariant-loop-word : goal.invariant-loop-word
invariant-loop-word l = record {
  places : l.self-inside.places ≡ [];
  few : length l.self-inside.text.now < 2 ^ 63;
  words : l.self-inside.words ≡ drop l.self-inside.passed (words_of l.self-inside.text.now);
  left : places_behind l.self-inside.table.now l.self-inside.shown (take l.self-inside.passed (words_of l.self-inside.text.now)) l.self-inside.words
      ≡ places_behind l.initial.self-inside.table.now l.initial.self-inside.shown (take l.initial.self-inside.passed (words_of l.initial.self-inside.text.now)) l.initial.self-inside.words;
}

abbrev pub decreases-loop-word : goal.decreases-loop-word
decreases-loop-word l = length l.self-inside.words
