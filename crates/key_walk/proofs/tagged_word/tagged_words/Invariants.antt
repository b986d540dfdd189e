use Rattle.std.proofs.Common.{◌≡◌, ◌++◌, length}
use Rattle.index_spec.specs.Words.{words_of}
use Rattle.key_walk.proofs.tagged_word.tagged_words.Given as goal

abbrev pub invariant-loop-rest : goal.invariant-loop-rest
invariant-loop-rest l = l.tagged.items ++ words_of l.rest ≡ words_of l.fn.text

abbrev pub decreases-loop-rest : goal.decreases-loop-rest
decreases-loop-rest l = length l.rest
