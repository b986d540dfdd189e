-- What few conditions give, as a condition keeps it.
use Rattle.dnr_rules.specs.declared.parts.RareParts.{RareParts}
use Rattle.dnr_rules.specs.Plain.{no_rare}
use Rattle.dnr_rules.specs.declared.rest.Rest.{Rest}
use Rattle.dnr_rules.specs.declared.rest.Rest.TheVariants.{Absent, Given}

abbrev pub rest_seen : Rest → RareParts
rest_seen (Absent none) = record no_rare { not_initiators = none; not_hosts = none }
rest_seen (Given rare) = rare.value
