use Rattle.std.proofs.Common.{◌≡◌, drop}
use Rattle.dnr_spec.specs.UrlFilter.{fits_at}
use Rattle.url_filter.specs.Stops.{HasNoStar}
use Rattle.url_filter.proofs.walks.walk.Given as goal

abbrev pub invariant-loop-i : goal.invariant-loop-i
invariant-loop-i l = record {
  same : fits_at l.ends l.fold l.pattern l.text ≡ fits_at l.ends l.fold (drop l.i l.pattern) l.rest;
  plain : HasNoStar l.pattern l.i;
  left : l.rest ≡ drop l.i l.text;
}
