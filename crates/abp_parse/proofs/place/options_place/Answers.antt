use Rattle.abp_parse.proofs.Places.{place_within}
use Rattle.abp_parse.proofs.place.options_place.Goals as goal

pub returns-then-has_dollar-clause-within : goal.returns-then-has_dollar-clause-within
returns-then-has_dollar-clause-within c = place_within c.args.text.now c.place_from_the_end.result c.place_from_the_end.ensures
