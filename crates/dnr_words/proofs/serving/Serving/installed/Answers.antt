use Rattle.dnr_words.proofs.Pairs.{none_left}
use Rattle.dnr_words.proofs.serving.Serving.installed.Goals as goal

pub returns : goal.returns
returns c = none_left c.loop-rest.rest.now _ _ c.in_default.len_below c.loop-rest.invariant
