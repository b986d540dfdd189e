use Rattle.std.proofs.Common.{rules, arith, take, subst, sym, ◌+◌}
use Rattle.std.proofs.lemmas.Grind.{common_steps}
use Rattle.dnr_spec.specs.Order as spec
use Rattle.precedence.specs.Best.{Keeps}
use Rattle.precedence.proofs.Orders.{beats_is_order}
use Rattle.precedence.proofs.Unbeaten.{keeps_end, keeps_step}
use Rattle.precedence.proofs.winners.inside.Goals as goal

pub loop-place-preserved : goal.loop-place-preserved
loop-place-preserved c =
    let more = keeps_step spec.beats beats_is_order c.args.list.now c.loop-place.place _ c.loop-place.best (omega arith) (search rules) c.loop-place.invariant in
    subst (Keeps spec.beats (take (c.loop-place.place + 1) c.args.list.now)) (sym c.better_candidate-best.ensures) more

pub returns-clause-winner : goal.returns-clause-winner
returns-clause-winner c =
    let all = keeps_end spec.beats beats_is_order c.args.list.now c.loop-place.place c.loop-place.best c.loop-place-test.false c.loop-place.invariant in
    let winner = all.0 in
    grind (arith, common_steps)

pub returns-clause-none : goal.returns-clause-none
returns-clause-none c =
    let all = keeps_end spec.beats beats_is_order c.args.list.now c.loop-place.place c.loop-place.best c.loop-place-test.false c.loop-place.invariant in
    rw c.map.ensures.variant all.1
