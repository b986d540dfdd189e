use Rattle.std.proofs.Common.{◌++◌, arith, refl}
use Rattle.std.specs.List.{flat_map}
use Rattle.generation.specs.Choice.{offers_by_live}
use Rattle.generation.proofs.Rest.{rest_end, rest_step}
use Rattle.generation.proofs.offers.add_lives.Goals as goal

pub loop-live-preserved : goal.loop-live-preserved
loop-live-preserved c =
    let piece = offers_by_live c.args.kept.now in
    rest_step (flat_map piece) piece (λ x xs. refl) c.args.lives.now c.loop-live.live-index c.live-item.result (c.args.offers.items ++ flat_map piece c.args.lives.now)
    c.loop-live.offers.items c.in_ok-offers.offers.items (omega arith) c.live-item.is c.loop-live.invariant c.in_ok-offers.ensures

pub returns : goal.returns
returns c =
    let piece = offers_by_live c.args.kept.now in
    rest_end (flat_map piece) refl c.args.lives.now c.loop-live.live-index (c.args.offers.items ++ flat_map piece c.args.lives.now) c.loop-live.offers.items
    c.loop-live-test.false c.loop-live.invariant
