use Rattle.std.proofs.Common.{◌≡◌, false, length, map}
use Rattle.dnr_spec.specs.UrlFilter.{some_end}
use Rattle.dnr_spec.specs.Wildcards.{takes}
use Rattle.dnr_spec.specs.MatchPatterns.{path_piece}
use Rattle.match_patterns.proofs.path.fits_some_end.Given as goal

abbrev pub invariant-loop-behind : goal.invariant-loop-behind
invariant-loop-behind l = some_end (takes false (map path_piece l.fn.path)) l.fn.text ≡ some_end (takes false (map path_piece l.path)) l.text

abbrev pub decreases-loop-behind : goal.decreases-loop-behind
decreases-loop-behind l = length l.path
