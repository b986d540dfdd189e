use Rattle.std.proofs.Common.{◌≡◌, List, drop, ◌++◌}
use Rattle.dnr_base.specs.declared.offered.Offered.{Offered}
use Rattle.dnr_spec.specs.Headers.{effective, effective_from}
use Rattle.header_actions.specs.Standing.{Stands}
use Rattle.header_actions.proofs.planning.plan.Given as goal

abbrev pub invariant-loop-place : goal.invariant-loop-place
invariant-loop-place l = (before : List Offered) × (Stands l.standing before) × (effective l.offers ≡ l.places.items ++ effective_from before l.place (drop l.place l.offers))
