use Rattle.std.proofs.Common.{◌≡◌, ℕ, ◌<◌, drop, false, ◌&&◌}
use Rattle.dnr_spec.specs.UrlFilter.{fits_at, follows_dot}
use Rattle.url_filter.proofs.places.place_in_domain.Given as goal

abbrev pub invariant-loop-place : goal.invariant-loop-place
invariant-loop-place l = (k : ℕ) → k < l.place → (follows_dot l.text l.fn.host k && fits_at l.ends l.fold l.pattern (drop k l.text)) ≡ false
