use Rattle.std.proofs.Common.{◌≡◌, ◌++◌, length, map}
use Rattle.dnr_spec.specs.Domains.{lower_case}
use Rattle.index_spec.specs.Words.{words_of}
use Rattle.rule_index.proofs.keys.words_in.Given as goal

abbrev pub invariant-loop-word : goal.invariant-loop-word
invariant-loop-word l = l.texts.items ++ map lower_case l.words ≡ map lower_case (words_of l.fn.text)

abbrev pub decreases-loop-word : goal.decreases-loop-word
decreases-loop-word l = length l.words
