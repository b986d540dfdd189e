use Rattle.std.proofs.Common.{◌∙◌}
use Rattle.std.specs.Option.{option_copied}
use Rattle.dnr_words.proofs.Pairs.{chosen_next}
use Rattle.dnr_words.proofs.serving.chosen_in.Goals as goal

pub loop-rest-preserved : goal.loop-rest-preserved
loop-rest-preserved c =
    chosen_next c.loop-rest.rest.now c.option-item.result c.value-item.result c.as_str.result.now c.as_str-in-len2-up.result.now
    c.loop-rest.once.workers c.in_ok-once.once.workers (option_copied c.loop-rest.once.suffixes) (option_copied c.in_ok-once.once.suffixes)
    c.in-len2-up.len_at_least c.option-item.is c.value-item.is c.as_str.ensures.value c.as_str-in-len2-up.ensures.value c.in_ok-once.ensures
    ∙ c.loop-rest.invariant
