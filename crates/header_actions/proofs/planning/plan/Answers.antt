use Rattle.std.proofs.Common.{arith, ◌≡◌, ap, ◌∙◌, ◌++◌, ◌+◌, drop}
use Rattle.std.proofs.lemmas.Grind.{common_steps}
use Rattle.dnr_spec.specs.Headers.{effective, effective_from}
use Rattle.header_actions.specs.Effects.{with_taken}
use Rattle.header_actions.specs.Standing.{Tells}
use Rattle.header_actions.proofs.Planned.{walk_step, with_place}
use Rattle.header_actions.proofs.planning.plan.Goals as goal
use Rattle.header_actions.proofs.planning.plan.Goals.{then-branch+in_ok-push, else-branch}

pub loop-place-preserved : goal.loop-place-preserved
loop-place-preserved c =
    let h = c.loop-place.invariant in
    let offer = c.index-offers-place.result in
    let took = c.in_ok-consider.field-0 in
    let told : Tells h.0 offer c.consider.new.self took = c.in_ok-consider.ensures h.0 h.1 in
    let places : with_place c.loop-place.places.items c.loop-place.place took ≡ c.if-branch.places.items =
    elim c.if-branch.branch [ then-branch+in_ok-push w ↦ grind (arith, common_steps) | else-branch w ↦ grind (arith, common_steps) ] in (
      with_taken h.0 offer took,
      told.stands,
      walk_step (effective c.args.offers.now) c.args.offers.now h.0 c.loop-place.place offer c.loop-place.places.items took (omega arith) c.index-offers-place.is told.told h.2
          ∙ ap (λ l. l ++ effective_from (with_taken h.0 offer took) (c.loop-place.place + 1) (drop (c.loop-place.place + 1) c.args.offers.now)) places,
    )
