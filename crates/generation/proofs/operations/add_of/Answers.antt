use Rattle.std.proofs.Common.{◌++◌, [], ◌∷◌, get_or, arith, refl, ◌<◌, length}
use Rattle.std.proofs.lemmas.List.{get_or_default}
use Rattle.generation.specs.Choice.{ops_at}
use Rattle.generation.proofs.Rest.{ops_each, rest_end, rest_step}
use Rattle.generation.proofs.operations.add_of.Goals as goal

pub loop-place-preserved : goal.loop-place-preserved
loop-place-preserved c =
    let places = c.args.places.now in
    let i = c.loop-place.place-index in
    let place = get_or places i 0 in
    let inside : i < length places = omega arith in
    rest_step (ops_at c.args.direction c.args.offers.now) (λ p. ops_at c.args.direction c.args.offers.now (p ∷ [])) (ops_each c.args.direction c.args.offers.now) places i place
    (c.args.ops.items ++ ops_at c.args.direction c.args.offers.now places) c.loop-place.ops.items c.in_ok-ops.ops.items inside (get_or_default places i 0 place inside)
    c.loop-place.invariant c.in_ok-ops.ensures

pub returns : goal.returns
returns c =
    rest_end (ops_at c.args.direction c.args.offers.now) refl c.args.places.now c.loop-place.place-index
    (c.args.ops.items ++ ops_at c.args.direction c.args.offers.now c.args.places.now) c.loop-place.ops.items c.loop-place-test.false c.loop-place.invariant
