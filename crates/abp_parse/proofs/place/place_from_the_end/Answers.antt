use Rattle.std.proofs.Common.{arith, ◌≡◌, ◌<◌, ◌≤◌, ◌+◌, ◌-◌, length}
use Rattle.abp_parse.proofs.Places.{at_end, before_left, none_before}
use Rattle.abp_parse.proofs.place.place_from_the_end.Goals as goal

pub loop-i-init : goal.loop-i-init
loop-i-init c = at_end c.args.text.now

pub loop-i-preserved : goal.loop-i-preserved
loop-i-preserved c =
    let within : c.loop-i.i ≤ length c.args.text.now = c.loop-i.invariant.within in
    let next : c.loop-i.i ≡ c.loop-i.i - 1 + 1 = omega arith in
    let less : c.loop-i.i - 1 < length c.args.text.now = omega arith in
    rw (c.before-rest.ensures, c.place_here-place.ensures) (before_left c.args.text.now (c.loop-i.i - 1) c.loop-i.i c.loop-i.rest c.loop-i.place next less c.loop-i.invariant)

pub returns : goal.returns
returns c = none_before c.args.text.now c.loop-i.i c.loop-i.rest c.loop-i.place c.loop-i-test.false c.loop-i.invariant
