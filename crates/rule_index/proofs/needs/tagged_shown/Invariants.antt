use Rattle.std.proofs.Common.{◌≡◌, take}
use Rattle.rule_index.specs.Needs as spec
use Rattle.rule_index.proofs.needs.tagged_shown.Given as goal

abbrev pub invariant-loop-word : goal.invariant-loop-word
invariant-loop-word l = l.bits ≡ spec.with_bits 0 (spec.places_of_words (take l.word-index l.fn.words))
