use Rattle.std.proofs.Common.{◌≡◌, slice_get, drop}
use Rattle.dnr_spec.specs.Transform as spec
use Rattle.redirect_transform.proofs.pairs.pair_at.Given as goal

abbrev pub invariant-loop-pair : goal.invariant-loop-pair
invariant-loop-pair l = slice_get (spec.pairs_with l.key l.pairs) l.place ≡ slice_get (spec.pairs_with l.key (drop l.pair-index l.pairs)) l.before
