use Rattle.std.proofs.Common.{◌≡◌, take}
use Rattle.key_walk.specs.Listed.{HasMet, repeats_in}
use Rattle.key_walk.proofs.listed_words.repeats.Given as goal

abbrev pub invariant-loop-word : goal.invariant-loop-word
invariant-loop-word l = record {
  repeats : l.repeats.items ≡ take l.word-index (repeats_in l.words);
  met : HasMet l.met (take l.word-index l.words);
}
