use Rattle.std.proofs.Common.{◌≡◌, ◌+◌, ◌<◌, List, ◌++◌, ◌∷◌, [], length, take, sym, subst, arith}
use Rattle.std.proofs.lemmas.List.{take_more}
use Rattle.std.proofs.lemmas.List.Elements.{AllZip-push, All-get_or}
use Rattle.std.specs.List.{AllZip}
use Rattle.lookup_pool.proofs.tools.are_idle.Goals as goal

each_stays : {T : Type 0} (R : T → T → Type 0) (tools : List T) → ((tool : T) → R tool tool) → AllZip R tools tools
each_stays R [] same = tt
each_stays R (tool ∷ tools) same = (same tool, each_stays R tools same)

all_stay : {T : Type 0} (R : T → T → Type 0) (tools : List T) → (0 < length tools → (tool : T) → R tool tool) → AllZip R tools tools
all_stay R [] same = tt
all_stay R (tool ∷ tools) same = each_stays R (tool ∷ tools) (same (omega arith))

pub loop-seat-preserved : goal.loop-seat-preserved
loop-seat-preserved g c =
    let seats = c.args.seats.now in
    let place = c.loop-seat.seat-index in
    let seat = c.seat-item.result in
    let can = subst (g.S.ToolSeat.can_work c.args.shared.now) (sym c.seat-item.is) (All-get_or (g.S.ToolSeat.can_work c.args.shared.now) seats place seat c.loop-seat-test.true c.requires) in
    let same = c.is_idle.ensures.seat c.if-not-is_idle.false can in
    let so_far = AllZip-push (g.S.ToolSeat.worked c.args.shared.now) (take place seats) (take place seats) seat seat c.loop-seat.invariant.worked same in
    let more = take_more seats place seat c.loop-seat-test.true in
    let there : take (place + 1) seats ≡ take place seats ++ seat ∷ [] = rw (sym c.seat-item.is) at more in
    let all : AllZip (g.S.ToolSeat.worked c.args.shared.now) (take (place + 1) seats) (take (place + 1) seats) = rw there so_far in
    record { worked = all; used = λ some tool. c.is_idle.ensures.tool c.if-not-is_idle.false tool }

pub returns-clause-used : goal.returns-clause-used
returns-clause-used g c idle tools long =
    all_stay g.S.ToolSeat.used tools (λ some tool. c.loop-seat.invariant.used (omega (arith, some, long)) tool)
