-- What the walks tell of a pattern and a text.
use Rattle.std.specs.Prelude.{◌≡◌, ◌<◌, ℕ, List, length, Bool, true, false}
use Rattle.dnr_spec.specs.UrlFilter.{fits_at, some_end}
use Rattle.url_filter.specs.Stops.{StopsAtStar}
use Rattle.url_filter.specs.declared.walks.Stop.{Stop}
use Rattle.url_filter.specs.declared.walks.Stop.TheVariants.{Star, Fits, Fails}

-- of a walk from one place
abbrev pub WalkTells : Bool → Bool → List ℕ → List ℕ → Stop → Type 0
WalkTells ends fold pattern text (Star after rest) = StopsAtStar ends fold pattern text after.now rest.now
WalkTells ends fold pattern text Fits = fits_at ends fold pattern text ≡ true
WalkTells ends fold pattern text Fails = fits_at ends fold pattern text ≡ false

-- of whether some pattern fits: it does, it does not, or it does where the rest behind a star fits at some end
abbrev pub Tells : Bool → Bool → Bool → Stop → Type 0
Tells ends fold whole (Star after rest) = whole ≡ some_end (fits_at ends fold after.now) rest.now
Tells ends fold whole Fits = whole ≡ true
Tells ends fold whole Fails = whole ≡ false

-- what is left behind a star is shorter than the pattern
abbrev pub IsShorter : List ℕ → Stop → Type 0
IsShorter pattern (Star after rest) = length after.now < length pattern
IsShorter pattern Fits = Unit {0}
IsShorter pattern Fails = Unit {0}
