use Rattle.std.proofs.Common.{◌∙◌, ◌==◌}
use Rattle.match_patterns.proofs.Places.{place_is, place_within}
use Rattle.match_patterns.proofs.stars.place_of.Goals as goal

pub returns-clause-first : goal.returns-clause-first
returns-clause-first c = c.unwrap_or.ensures ∙ place_is (λ b. b == c.args.byte) c.args.text.now c.position_of.result c.position_of.ensures

pub returns-clause-within : goal.returns-clause-within
returns-clause-within c = place_within (λ b. b == c.args.byte) c.args.text.now c.unwrap_or.result (returns-clause-first c)
