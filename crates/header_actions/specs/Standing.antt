-- What is kept of the changes of both directions that took effect.
use Rattle.std.specs.Prelude.{◌≡◌, List, Bool, IfOk, Result}
use Rattle.dnr_base.specs.declared.no_memory.NoMemory.{NoMemory}
use Rattle.dnr_base.specs.declared.direction.Direction.TheVariants.{Request, Response}
use Rattle.dnr_base.specs.declared.offered.Offered.{Offered}
use Rattle.dnr_spec.specs.Headers.{takes_effect}
use Rattle.header_actions.specs.declared.standing.Standing.{Standing}
use Rattle.header_actions.specs.Effects.{IsSettled, Keeps, with_taken}

pub record Stands (standing : Standing) (before : List Offered) : Type 0 where
  pub settled : IsSettled before
  pub requests : Keeps standing.requests Request before
  pub responses : Keeps standing.responses Response before

-- an offer was considered: it is told whether it takes effect behind those before
pub record Tells (before : List Offered) (offer : Offered) (new : Standing) (took : Bool) : Type 0 where
  pub told : took ≡ takes_effect before offer
  pub stands : Stands new (with_taken before offer took)

abbrev pub GoesOn : Standing → Standing → Offered → Result Bool NoMemory → Type 0
GoesOn old new offer result = (before : List Offered) → Stands old before → IfOk result (Tells before offer new)
