use Rattle.std.proofs.Common.{◌≡◌, ◌+◌, ◌-◌, ◌<◌, length, arith, length-set}
use Rattle.wildcard.proofs.Ends.{end_begins, end_more, end_stands}
use Rattle.wildcard.proofs.places.begin.Goals as goal

pub loop-place-init : goal.loop-place-init
loop-place-init c = end_begins c.args.pieces.now c.args.table.now c.requires

pub loop-place-preserved : goal.loop-place-preserved
loop-place-preserved c =
    let more : c.loop-place.place ≡ (c.loop-place.place - 1) + 1 = omega arith in
    let kept = simp length-set at c.loop-place.auto.table in
    let room : length c.args.pieces.now < length c.loop-place.table = omega arith in
    end_more c.args.pieces.now c.loop-place.table c.loop-place.place (c.loop-place.place - 1) c.loop-place.now c.take_nothing-now.result _
    more room c.take_nothing-now.ensures c.loop-place.invariant

pub returns : goal.returns
returns c fold text = end_stands c.args.pieces.now c.loop-place.table c.loop-place.place c.loop-place.now fold text (omega arith) c.loop-place.invariant
