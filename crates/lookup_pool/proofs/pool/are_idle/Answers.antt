use Rattle.std.proofs.Common.{◌≡◌, ◌+◌, ◌++◌, ◌∷◌, [], take, sym, subst}
use Rattle.std.proofs.lemmas.List.{take_more}
use Rattle.std.proofs.lemmas.List.Elements.{AllZip-push, All-get_or}
use Rattle.std.specs.List.{AllZip}
use Rattle.lookup_pool.proofs.pool.are_idle.Goals as goal

pub loop-seat-preserved : goal.loop-seat-preserved
loop-seat-preserved g c =
    let seats = c.args.seats.now in
    let place = c.loop-seat.seat-index in
    let seat = c.seat-item.result in
    let can = subst g.S.Seat.can_work (sym c.seat-item.is) (All-get_or g.S.Seat.can_work seats place seat c.loop-seat-test.true c.requires) in
    let same = c.is_idle.ensures c.if-not-is_idle.false can in
    let so_far = AllZip-push g.S.Seat.worked (take place seats) (take place seats) seat seat c.loop-seat.invariant same in
    let more = take_more seats place seat c.loop-seat-test.true in
    let there : take (place + 1) seats ≡ take place seats ++ seat ∷ [] = rw (sym c.seat-item.is) at more in
    let all : AllZip g.S.Seat.worked (take (place + 1) seats) (take (place + 1) seats) = rw there so_far in
    all
