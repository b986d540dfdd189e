use Rattle.std.proofs.Common.{drop}
use Rattle.memchr.specs.Find.{is_byte2}
use Rattle.dnr_spec.specs.UrlFilter.{fits_at}
use Rattle.url_filter.proofs.Found.{IsLeft}
use Rattle.url_filter.proofs.sought.place_by_byte.Given as goal

abbrev pub invariant-loop-place : goal.invariant-loop-place
invariant-loop-place l = record {
  can : (goal.iterator-loop-place).can_next l.place-iterator;
  ends : (goal.iterator-loop-place).is_finite l.place-iterator;
  left : IsLeft (is_byte2 l.byte l.other) (drop l.offset l.text) (fits_at l.ends l.fold l.pattern) l.text l.place-iterator;
}
