use Rattle.std.proofs.Common.{◌≡◌, map, string_bytes, length, None}
use Rattle.std.specs.Option.{option_copied}
use Rattle.dnr_words.specs.Reading.{chosen_from}
use Rattle.dnr_words.proofs.serving.chosen_in.Given as goal

abbrev pub invariant-loop-rest : goal.invariant-loop-rest
invariant-loop-rest l = chosen_from l.once.workers (option_copied l.once.suffixes) (map string_bytes l.rest) ≡ chosen_from None None (map string_bytes l.fn.words)

abbrev pub decreases-loop-rest : goal.decreases-loop-rest
decreases-loop-rest l = length l.rest
