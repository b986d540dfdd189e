-- The first raw line of bytes that begin without an LF.
use Rattle.std.proofs.Common.{◌≡◌, ◌≢◌, ℕ, suc, ◌<◌, ◌≤◌, List, [], ◌∷◌, ◌++◌, length, true, false, refl, sym, ap, subst, arith}
use Rattle.std.proofs.lemmas.Bool.Decides.{nat_tests}
use Rattle.std.specs.Prelude.{◌==◌}
use Rattle.dnr_spec.specs.Lines.{RawLine, raw_lines_of, onto_first}
use Rattle.dnr_io.specs.Ahead.{HasNoLf}

is_other : (b : ℕ) (bytes : List ℕ) → HasNoLf (b ∷ bytes) → (b == 10) ≡ false
is_other b bytes plain =
    let other : b ≢ 10 = plain 0 (omega arith) in
    grind (arith, nat_tests)

rest_plain : (b : ℕ) (bytes : List ℕ) → HasNoLf (b ∷ bytes) → HasNoLf bytes
rest_plain b bytes plain i lt = plain (suc i) (omega arith)

pub raw_ended : (bytes rest : List ℕ) → HasNoLf bytes → raw_lines_of (bytes ++ 10 ∷ rest) ≡ record { bytes = bytes; ended = true } ∷ raw_lines_of rest
raw_ended [] rest plain = refl
raw_ended (b ∷ bytes) rest plain = rw (is_other b bytes plain, raw_ended bytes rest (rest_plain b bytes plain)) refl

pub raw_last : (bytes : List ℕ) → HasNoLf bytes → 0 < length bytes → raw_lines_of bytes ≡ record { bytes = bytes; ended = false } ∷ []
raw_last [] plain some = absurd (omega arith)
raw_last (b ∷ []) plain some = rw (is_other b [] plain) refl
raw_last (b ∷ c ∷ bytes) plain some =
    rw (is_other b (c ∷ bytes) plain) (ap (onto_first b) (raw_last (c ∷ bytes) (rest_plain b (c ∷ bytes) plain) (omega arith)))

-- the first raw line has at least so many bytes
pub record Begins (lines : List RawLine) (n : ℕ) : Type 0 where
  pub raw : RawLine
  pub later : List RawLine
  pub first : lines ≡ raw ∷ later
  pub long : n ≤ length raw.bytes

onto : (b n : ℕ) (lines : List RawLine) → Begins lines n → Begins (onto_first b lines) (suc n)
onto b n [] h = absurd (cc (h.first))
onto b n (line ∷ lines) h =
    let same : line ≡ h.raw = cc (h.first) in
    let long : n ≤ length line.bytes = subst (λ (raw : RawLine). n ≤ length raw.bytes) (sym same) h.long in record {
      raw = record { bytes = b ∷ line.bytes; ended = line.ended };
      later = lines;
      first = refl;
      long = omega arith;
    }

first_byte : (b : ℕ) (lines : List RawLine) → Begins (onto_first b lines) 1
first_byte b [] = record { raw = _; later = []; first = refl; long = omega arith }
first_byte b (line ∷ lines) = record { raw = _; later = lines; first = refl; long = omega arith }

pub raw_begins : (bytes rest : List ℕ) → HasNoLf bytes → 0 < length bytes → Begins (raw_lines_of (bytes ++ rest)) (length bytes)
raw_begins [] rest plain some = absurd (omega arith)
raw_begins (b ∷ []) rest plain some = rw (is_other b [] plain) (first_byte b (raw_lines_of rest))
raw_begins (b ∷ c ∷ bytes) rest plain some =
    rw (is_other b (c ∷ bytes) plain) (onto b (length (c ∷ bytes)) (raw_lines_of (c ∷ bytes ++ rest)) (raw_begins (c ∷ bytes) rest (rest_plain b (c ∷ bytes) plain) (omega arith)))
