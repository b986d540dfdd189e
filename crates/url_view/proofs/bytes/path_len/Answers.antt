use Rattle.std.proofs.Common.{rules, arith, ◌==◌}
use Rattle.url_view.proofs.Found.{stops, steps_on, ends}
use Rattle.url_view.proofs.bytes.path_len.Goals as goal

pub loop-place-init : goal.loop-place-init
loop-place-init c = omega arith

pub returns-then-not-goes_on-clause-value : goal.returns-then-not-goes_on-clause-value
returns-then-not-goes_on-clause-value c =
    let none
    = stops (c.loop-place.before == 47) c.args.bytes.now c.loop-place.place c.loop-place-test.true (search rules) in
    omega (arith, c.loop-place.invariant)

pub loop-place-preserved : goal.loop-place-preserved
loop-place-preserved c =
    let more
    = steps_on (c.loop-place.before == 47) c.args.bytes.now c.loop-place.place c.loop-place-test.true (search rules) in
    omega (arith, c.loop-place.invariant)

pub returns-clause-value : goal.returns-clause-value
returns-clause-value c =
    let none
    = ends (c.loop-place.before == 47) c.args.bytes.now c.loop-place.place c.loop-place-test.false in
    omega (arith, c.loop-place.invariant)
