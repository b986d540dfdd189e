-- What two searches tell of bytes: one for a needle, and one for a backslash.
use Rattle.std.proofs.Common.{◌≡◌, ◌≢◌, IsTrue, ℕ, List, Bool, true, false, not, Option, Some, None, is_some, refl, arith, eq-eqb}
use Rattle.std.proofs.lemmas.Bool.{eqb-true}
use Rattle.json.specs.Ascii as ascii
use Rattle.memchr.specs.Find.{FindsNeedle, IsFirstByte, is_byte}
use Rattle.lines_ahead.specs.Plain.{Lacks}

-- the first backslash
abbrev pub IsEscapeAt : List ℕ → Option ℕ → Type 0
IsEscapeAt bytes place = IsFirstByte (is_byte ascii.backslash) bytes place

-- bytes in which neither search finds anything lack the needle
pub nothing_found : (needle bytes : List ℕ) (place escape : Option ℕ) → FindsNeedle bytes needle 0 place → IsEscapeAt bytes escape → is_some place ≡ false → is_some escape ≡ false → Lacks needle bytes
nothing_found needle bytes (Some at) escape finds first none no_escape = absurd (cc)
nothing_found needle bytes None (Some at) finds first none no_escape = absurd (cc)
nothing_found needle bytes None None finds first none no_escape =
    record {
      no_needle = λ at occurs. finds at (omega arith) (let fits = occurs.fits in omega arith) occurs;
      no_escape = λ at within is. first at (omega arith) within (eq-eqb _ ascii.backslash is);
    }

-- in bytes that lack it neither does
pub never_needle : (needle bytes : List ℕ) (place : Option ℕ) → FindsNeedle bytes needle 0 place → Lacks needle bytes → is_some place ≡ false
never_needle needle bytes None finds lacks = refl
never_needle needle bytes (Some at) finds lacks = absurd (lacks.no_needle at finds.1)

pub never_escape : (needle bytes : List ℕ) (escape : Option ℕ) → IsEscapeAt bytes escape → Lacks needle bytes → is_some escape ≡ false
never_escape needle bytes None first lacks = refl
never_escape needle bytes (Some at) first lacks = absurd (lacks.no_escape at first.0.high (eqb-true _ ascii.backslash first.1))

-- what tells that a search found nothing
pub not_none : (b : Bool) → not b ≡ false → IsTrue b
not_none true none = refl
not_none false none = absurd (cc)
