use Rattle.std.proofs.Common.{refl}
use Rattle.match_patterns.proofs.Splits.{around_star, before_star, tail_slice, without_star}
use Rattle.match_patterns.proofs.stars.split_at_star.Goals as goal

pub returns-then-place-pattern : goal.returns-then-place-pattern
returns-then-place-pattern c =
    rw tail_slice (
      before_star c.args.pattern.now c.place_of-place.result c.place_of-place.ensures.first c.if-place-pattern.true,
      around_star c.args.pattern.now c.place_of-place.result c.place_of-place.ensures.first c.if-place-pattern.true,
    )

pub returns-else-place-pattern : goal.returns-else-place-pattern
returns-else-place-pattern c = (without_star c.args.pattern.now c.place_of-place.result c.place_of-place.ensures.first c.if-place-pattern.false, refl)
