use Rattle.std.proofs.Common.{◌≡◌, length}
use Rattle.dnr_spec.specs.UrlFilter.{fits_at, some_end}
use Rattle.url_filter.proofs.places.place_anywhere.Given as goal

abbrev pub invariant-loop-stop : goal.invariant-loop-stop
invariant-loop-stop l = some_end (fits_at l.ends l.fold l.pattern) l.text ≡ some_end (fits_at l.ends l.fold l.pattern) l.rest

abbrev pub decreases-loop-stop : goal.decreases-loop-stop
decreases-loop-stop l = length l.rest
