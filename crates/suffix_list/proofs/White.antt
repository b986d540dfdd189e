-- Where a line's first white space stands.
use Rattle.std.proofs.Common.{◌≡◌, ℕ, ◌<◌, List, get_or, true, Some, arith}
use Rattle.std.specs.List.{position}
use Rattle.std.specs.Str.{IsCharBoundary}
use Rattle.std.proofs.lemmas.Bool.Decides.{nat_tests}
use Rattle.std.proofs.lemmas.List.Quantifiers.{position-Some}
use Rattle.dnr_spec.specs.Suffixes.{is_white}

white_below : (b : ℕ) → is_white b ≡ true → b < 128
white_below b h = grind (arith, nat_tests)

pub white_boundary : (line : List ℕ) (end : ℕ) → position is_white line ≡ Some end → IsCharBoundary line end
white_boundary line end h =
    let at = position-Some is_white line end 0 h in
    let low : get_or line end 0 < 128 = white_below (get_or line end 0) at.1 in
    (omega arith, λ l high. absurd (omega arith))
