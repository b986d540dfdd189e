use Rattle.std.proofs.Common.{rules, subst, ◌≡◌, ◌∷◌, All}
use Rattle.std.proofs.lemmas.List.Elements.{All-head, All-rest}
use Rattle.lookup_pool.proofs.tools.+seats.Goals as goal

pub seats_with_tools-work_beside-requires-clause-rest : goal.seats_with_tools-work_beside-requires-clause-rest
seats_with_tools-work_beside-requires-clause-rest g t c κs within =
    let is : c.args.seats.now ≡ c.in-Some.first.now ∷ c.in-Some.rest.now = search rules in
    All-rest (g.S.ToolSeat.can_work c.args.shared.now) c.in-Some.first.now c.in-Some.rest.now c.args.seats.now is c.requires.seats

pub seats_with_tools-returns-then-is_idle-clause-worked : goal.seats_with_tools-returns-then-is_idle-clause-worked
seats_with_tools-returns-then-is_idle-clause-worked g t c =
    let is : c.args.seats.now ≡ c.in-Some.first.now ∷ c.in-Some.rest.now = search rules in
    let can = All-head (g.S.ToolSeat.can_work c.args.shared.now) c.in-Some.first.now c.in-Some.rest.now (subst (All (g.S.ToolSeat.can_work c.args.shared.now)) is c.requires.seats) in
    rw is (c.is_idle.ensures.seat c.if-is_idle.true can, c.seats_with_tools.ensures.worked)
