use Rattle.std.proofs.Common.{◌≡◌, length}
use Rattle.dnr_spec.specs.UrlFilter.{fits_at, some_end}
use Rattle.url_filter.proofs.places.place_behind_star.Given as goal

abbrev pub invariant-loop-behind : goal.invariant-loop-behind
invariant-loop-behind l = some_end (fits_at l.ends l.fold l.fn.pattern) l.fn.text ≡ some_end (fits_at l.ends l.fold l.pattern) l.rest

abbrev pub decreases-loop-behind : goal.decreases-loop-behind
decreases-loop-behind l = length l.pattern
