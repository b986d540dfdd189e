use Rattle.std.proofs.Common.{◌≡◌, map, take, string_bytes}
use Rattle.dnr_c.specs.Given.{word_of}
use Rattle.dnr_c.proofs.given.words_of.Given as goal

abbrev pub invariant-loop-word : goal.invariant-loop-word
invariant-loop-word l = map string_bytes l.all.items ≡ map word_of (take l.word-index l.words)
