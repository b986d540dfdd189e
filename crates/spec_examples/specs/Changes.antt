-- How many header changes take effect.
use Rattle.std.specs.Prelude.{◌≡◌, codes, replicate, true, false}
use Rattle.dnr_base.specs.declared.direction.Direction.{Direction}
use Rattle.dnr_base.specs.declared.direction.Direction.TheVariants as direction
use Rattle.dnr_base.specs.declared.offered.Offered.{Offered}
use Rattle.dnr_base.specs.declared.operation.Operation.TheVariants.{Append}
use Rattle.dnr_spec.specs.Headers.{takes_effect}

abbrev pub offer : Direction → Offered
offer direction = record { age = 0; direction = direction; name = codes "a"; operation = Append }

-- Behind 127 changes of requests one more takes effect, and behind 128 none but one of responses.
abbrev pub ChangesOfADirectionAreBounded : Type 0
ChangesOfADirectionAreBounded =
    (takes_effect (replicate 127 (offer direction.Request)) (offer direction.Request) ≡ true)
    × (takes_effect (replicate 128 (offer direction.Request)) (offer direction.Request) ≡ false)
    × (takes_effect (replicate 128 (offer direction.Request)) (offer direction.Response) ≡ true)
