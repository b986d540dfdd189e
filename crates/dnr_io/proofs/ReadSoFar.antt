-- Lines that are read one after another.
use Rattle.std.proofs.Common.{◌≡◌, ◌≢◌, ℕ, ◌+◌, ◌<◌, ◌≤◌, List, [], ◌∷◌, ◌++◌, map, length, Bool, true, false, Option, Some, None, refl, sym, ap, ◌∙◌, inl, inr, arith, append_assoc, append-nil, length-append}
use Rattle.std.proofs.lemmas.Bool.{le-leb}
use Rattle.std.proofs.lemmas.Bool.Decides.{nat_tests}
use Rattle.std.proofs.lemmas.List.{map-append}
use Rattle.std.proofs.lemmas.List.Folds.{list_all-append}
use Rattle.std.specs.Prelude.{IfSome, ◌&&◌, ◌==◌, nat_le, if◌then◌else◌}
use Rattle.std.specs.List.{list_all}
use Rattle.std.specs.Io.KnownBytes.{IsAtEnd, prepend_known}
use Rattle.dnr_spec.specs.Lines.{RawLine, raw_lines_of, onto_first, line_of, lines_of, is_short, is_within_limits, max_line, max_lines}
use Rattle.dnr_io.specs.Lines.{GivesLine, IsBeyond}

-- so many lines of the script were read, and `rest` is left
pub record IsReadSoFar (script rest : List ℕ) (lines : List (List ℕ)) (count : ℕ) : Type 0 where
  pub raws : List RawLine
  pub first : raw_lines_of script ≡ raws ++ raw_lines_of rest
  pub texts : lines ≡ map line_of raws
  pub short : list_all is_short raws ≡ true
  pub counted : length raws ≡ count

abbrev pub ReadSoFar : Option (List ℕ) → Option (List ℕ) → List (List ℕ) → ℕ → Type 0
ReadSoFar None rest lines count = Unit {0}
ReadSoFar (Some script) None lines count = ⊥
ReadSoFar (Some script) (Some rest) lines count = IsReadSoFar script rest lines count

pub none_read : (script : Option (List ℕ)) → ReadSoFar script (prepend_known [] script) [] 0
none_read None = tt
none_read (Some script) = record { raws = []; first = refl; texts = refl; short = refl; counted = refl }

pub one_read : (script before after : Option (List ℕ)) (lines : List (List ℕ)) (count now : ℕ) (line : List ℕ) → ReadSoFar script before lines count → GivesLine before after line → now ≡ count + 1 → ReadSoFar script after (lines ++ line ∷ []) now
one_read None before after lines count now line read gives up = tt
one_read (Some script) None after lines count now line read gives up = absurd read
one_read (Some script) (Some before) None lines count now line read gives up = absurd gives.first
one_read (Some script) (Some before) (Some after) lines count now line read gives up = record {
  raws = read.raws ++ gives.raw ∷ [];
  first = read.first ∙ ap (λ raws. read.raws ++ raws) gives.first ∙ sym (append_assoc read.raws (gives.raw ∷ []) (raw_lines_of after));
  texts = rw (map-append line_of read.raws (gives.raw ∷ []), read.texts, gives.text) refl;
  short = rw (list_all-append is_short read.raws (gives.raw ∷ []), read.short, gives.short) refl;
  counted = omega (arith, length-append read.raws (gives.raw ∷ []), read.counted);
}

onto_some : (b : ℕ) (lines : List RawLine) → 0 < length (onto_first b lines)
onto_some b [] = omega arith
onto_some b (line ∷ lines) = omega arith

some_raw : (bytes : List ℕ) → bytes ≢ [] → 0 < length (raw_lines_of bytes)
some_raw [] some = absurd (some refl)
some_raw (b ∷ bytes) some = elim (b == 10) as (λ (lf : Bool). 0 < length (if lf then record { bytes = []; ended = true } ∷ raw_lines_of bytes else onto_first b (raw_lines_of bytes))) [ true ↦ omega arith | false ↦ onto_some b (raw_lines_of bytes) ]

nat_le_false : (m n : ℕ) → n < m → nat_le m n ≡ false
nat_le_false m n lt = grind (arith, nat_tests, lt)

and_false : (b : Bool) → (b && false) ≡ false
and_false true = refl
and_false false = refl

list_within : (raws : List RawLine) → list_all is_short raws ≡ true → length raws ≤ max_lines → (list_all is_short raws && nat_le (length raws) max_lines) ≡ true
list_within raws short few = rw short (le-leb (length raws) max_lines few)

pub all_read : (script rest : Option (List ℕ)) (lines : List (List ℕ)) (count : ℕ) → ReadSoFar script rest lines count → IsAtEnd rest → IfSome script (λ bytes. lines ≡ lines_of bytes)
all_read None rest lines count read end = tt
all_read (Some script) None lines count read end = absurd read
all_read (Some script) (Some rest) lines count read end =
    read.texts ∙ ap (map line_of) (sym (read.first ∙ ap (λ bytes. read.raws ++ raw_lines_of bytes) end ∙ append-nil read.raws))

pub all_within : (script rest : Option (List ℕ)) (lines : List (List ℕ)) (count : ℕ) → ReadSoFar script rest lines count → IsAtEnd rest → count ≤ max_lines → IfSome script (λ bytes. is_within_limits bytes ≡ true)
all_within None rest lines count read end few = tt
all_within (Some script) None lines count read end few = absurd read
all_within (Some script) (Some rest) lines count read end few =
    let is : raw_lines_of script ≡ read.raws = read.first ∙ ap (λ bytes. read.raws ++ raw_lines_of bytes) end ∙ append-nil read.raws in
    rw is (list_within read.raws read.short (omega (arith, read.counted)))

long_line : (raws later : List RawLine) (raw : RawLine) → max_line < length raw.bytes → list_all is_short (raws ++ raw ∷ later) ≡ false
long_line [] later raw long = rw (nat_le_false (length raw.bytes) max_line long) refl
long_line (first ∷ raws) later raw long = rw (long_line raws later raw long) (and_false (is_short first))

beyond : (script rest : List ℕ) (lines : List (List ℕ)) (count : ℕ) → IsReadSoFar script rest lines count → IsBeyond count rest → is_within_limits script ≡ false
beyond script rest lines count read (inl h) =
    let is : raw_lines_of script ≡ read.raws ++ h.raw ∷ h.later = read.first ∙ ap (λ raws. read.raws ++ raws) h.first in
    rw (is, long_line read.raws h.later h.raw h.long) refl
beyond script rest lines count read (inr h) =
    let many : max_lines < length (raw_lines_of script) = omega (arith, some_raw rest h.0, h.1, read.counted, ap length read.first, length-append read.raws (raw_lines_of rest)) in
    rw (nat_le_false (length (raw_lines_of script)) max_lines many) (and_false (list_all is_short (raw_lines_of script)))

pub is_beyond : (script rest : Option (List ℕ)) (lines : List (List ℕ)) (count : ℕ) → ReadSoFar script rest lines count → IfSome rest (IsBeyond count) → IfSome script (λ bytes. is_within_limits bytes ≡ false)
is_beyond None rest lines count read h = tt
is_beyond (Some script) None lines count read h = absurd read
is_beyond (Some script) (Some rest) lines count read h = beyond script rest lines count read h
