-- The lines of a script that is read up to some place, among those before what is too long.
use Rattle.std.proofs.Common.{◌≡◌, ◌≢◌, ℕ, zero, suc, ◌+◌, ◌-◌, ◌<◌, ◌≤◌, List, [], ◌∷◌, ◌++◌, take, map, length, Bool, true, false, Option, Some, None, refl, sym, ap, ◌∙◌, inl, inr, subst, arith, append_assoc, append-nil}
use Rattle.std.specs.Prelude.{take_while, filter, cond, nat_le, ◌&&◌, ◌==◌, ◌⊎◌, if◌then◌else◌}
use Rattle.std.specs.List.{list_all}
use Rattle.std.proofs.lemmas.Bool.Decides.{nat_tests}
use Rattle.std.proofs.lemmas.List.{map-append}
use Rattle.std.proofs.lemmas.List.Sums.{take_while-cons}
use Rattle.dnr_spec.specs.Lines.{RawLine, raw_lines_of, onto_first, line_of, lines_of, is_short, is_within_limits, max_line, max_lines}
use Rattle.dnr_io.specs.Ahead.{HasNoLf, after_end}
use Rattle.dnr_io.specs.Lines.{AreEnded, HaveEnded, IsBeyond, StopsWithin}
use Rattle.dnr_io.proofs.RawLines.{raw_ended, raw_last}
use Rattle.dnr_io.proofs.ReadSoFar.{IsReadSoFar, ReadSoFar}
use Rattle.session_spec.specs.Rounds.{short_lines, has_end, ended_lines}

take_past : {X : Type 0} (n : ℕ) (xs ys : List X) → length xs ≤ n → take n (xs ++ ys) ≡ xs ++ take (n - length xs) ys
take_past n [] ys le = let same : n ≡ n - 0 = omega arith in ap (λ k. take k ys) same
take_past zero (x ∷ xs) ys le = absurd (omega (arith, le))
take_past (suc n) (x ∷ xs) ys le =
    let same : n - length xs ≡ suc n - length (x ∷ xs) = omega arith in
    ap (λ l. x ∷ l) (take_past n xs ys (omega (arith, le)) ∙ ap (λ k. xs ++ take k ys) same)

both : (b c : Bool) → (b && c) ≡ true → (b ≡ true) × (c ≡ true)
both true c is = (refl, is)
both false c is = absurd (cc is)

while_past : (raws later : List RawLine) → list_all is_short raws ≡ true → take_while is_short (raws ++ later) ≡ raws ++ take_while is_short later
while_past [] later short = refl
while_past (raw ∷ raws) later short =
    let parts = both (is_short raw) (list_all is_short raws) short in
    take_while-cons is_short raw (raws ++ later) ∙ rw parts.0 (ap (λ l. raw ∷ l) (while_past raws later parts.1))

short_raws : (script rest : List ℕ) (lines : List (List ℕ)) (count : ℕ) (read : IsReadSoFar script rest lines count) → count ≤ max_lines
    → short_lines script ≡ lines ++ map line_of (take (max_lines - length read.raws) (take_while is_short (raw_lines_of rest)))
short_raws script rest lines count read few =
    ap (λ rs. map line_of (take max_lines (take_while is_short rs))) read.first
    ∙ ap (λ rs. map line_of (take max_lines rs)) (while_past read.raws (raw_lines_of rest) read.short)
    ∙ ap (map line_of) (take_past max_lines read.raws (take_while is_short (raw_lines_of rest)) (omega (arith, read.counted, few)))
    ∙ map-append line_of read.raws (take (max_lines - length read.raws) (take_while is_short (raw_lines_of rest)))
    ∙ ap (λ ls. ls ++ map line_of (take (max_lines - length read.raws) (take_while is_short (raw_lines_of rest)))) (sym read.texts)

-- the lines that were read are the first of those before what is too long
pub record FirstShort (script : List ℕ) (lines : List (List ℕ)) : Type 0 where
  pub later : List (List ℕ)
  pub same : short_lines script ≡ lines ++ later

pub first_short : (script rest : List ℕ) (lines : List (List ℕ)) (count : ℕ) → IsReadSoFar script rest lines count → count ≤ max_lines → FirstShort script lines
first_short script rest lines count read few = record { later = _; same = short_raws script rest lines count read few }

take_nothing : (n : ℕ) → take n (let none : List RawLine = [] in none) ≡ []
take_nothing zero = refl
take_nothing (suc n) = refl

long_first : (raw : RawLine) → max_line < length raw.bytes → is_short raw ≡ false
long_first raw long = grind (arith, nat_tests, long)

-- nothing is short behind them where the next line is too long or one too many
pub all_short : (script rest : List ℕ) (lines : List (List ℕ)) (count : ℕ) → IsReadSoFar script rest lines count → count ≤ max_lines → IsBeyond count rest → short_lines script ≡ lines
all_short script rest lines count read few (inl long) =
    let stops : take_while is_short (raw_lines_of rest) ≡ [] = ap (take_while is_short) long.first ∙ (rw (long_first long.raw long.long) refl) in
    short_raws script rest lines count read few
    ∙ ap (λ rs. lines ++ map line_of (take (max_lines - length read.raws) rs)) stops
    ∙ ap (λ rs. lines ++ map line_of rs) (take_nothing (max_lines - length read.raws))
    ∙ append-nil lines
all_short script rest lines count read few (inr many) =
    let none : max_lines - length read.raws ≡ 0 = omega (arith, read.counted, many.1) in
    short_raws script rest lines count read few
    ∙ ap (λ n. lines ++ map line_of (take n (take_while is_short (raw_lines_of rest)))) none
    ∙ append-nil lines

-- ---- what a script gave before a fault

ten : (b : ℕ) → (b == 10) ≡ true → b ≡ 10
ten b is = grind (arith, nat_tests, is)

not_ten : (b : ℕ) → (b == 10) ≡ false → b ≢ 10
not_ten b is = grind (arith, nat_tests, is)

-- the bytes of lines, each with its LF
abbrev pub bytes_of : List RawLine → List ℕ
bytes_of [] = []
bytes_of (raw ∷ raws) = raw.bytes ++ after_end raw.ended (bytes_of raws)

first_bytes : (b : ℕ) (raws : List RawLine) → bytes_of (onto_first b raws) ≡ b ∷ bytes_of raws
first_bytes b [] = refl
first_bytes b (raw ∷ raws) = refl

split_case : (b : ℕ) (bytes : List ℕ) (ends : Bool) → (b == 10) ≡ ends → bytes_of (raw_lines_of bytes) ≡ bytes → bytes_of (raw_lines_of (b ∷ bytes)) ≡ b ∷ bytes
split_case b bytes true ends same = rw ends (ap (λ l. 10 ∷ l) same ∙ ap (λ n. n ∷ bytes) (sym (ten b ends)))
split_case b bytes false ends same = rw ends (first_bytes b (raw_lines_of bytes) ∙ ap (λ l. b ∷ l) same)

-- a script is the bytes of its lines
pub bytes_back : (bytes : List ℕ) → bytes_of (raw_lines_of bytes) ≡ bytes
bytes_back [] = refl
bytes_back (b ∷ bytes) = split_case b bytes (b == 10) refl (bytes_back bytes)

after_append : (ended : Bool) (xs ys : List ℕ) → after_end ended (xs ++ ys) ≡ after_end ended xs ++ ys
after_append true xs ys = refl
after_append false xs ys = refl

bytes_append : (raws more : List RawLine) → bytes_of (raws ++ more) ≡ bytes_of raws ++ bytes_of more
bytes_append [] more = refl
bytes_append (raw ∷ raws) more =
    ap (λ bs. raw.bytes ++ after_end raw.ended bs) (bytes_append raws more)
    ∙ ap (λ bs. raw.bytes ++ bs) (after_append raw.ended (bytes_of raws) (bytes_of more))
    ∙ sym (append_assoc raw.bytes (after_end raw.ended (bytes_of raws)) (bytes_of more))

-- ---- lines that have ended

-- none has an LF in it
abbrev pub ArePlain : List RawLine → Type 0
ArePlain [] = Unit {0}
ArePlain (raw ∷ raws) = HasNoLf raw.bytes × ArePlain raws

no_lf : HasNoLf []
no_lf i inside = absurd (omega (arith, inside))

other_byte : (b : ℕ) (bytes : List ℕ) → (b == 10) ≡ false → HasNoLf bytes → HasNoLf (b ∷ bytes)
other_byte b bytes other plain zero inside = not_ten b other
other_byte b bytes other plain (suc i) inside = plain i (omega (arith, inside))

onto_plain : (b : ℕ) (raws : List RawLine) → (b == 10) ≡ false → ArePlain raws → ArePlain (onto_first b raws)
onto_plain b [] other plain = (other_byte b [] other no_lf, tt)
onto_plain b (raw ∷ raws) other plain = (other_byte b raw.bytes other plain.0, plain.1)

plain_case : (b : ℕ) (bytes : List ℕ) (ends : Bool) → (b == 10) ≡ ends → ArePlain (raw_lines_of bytes) → ArePlain (raw_lines_of (b ∷ bytes))
plain_case b bytes true ends plain = rw ends (no_lf, plain)
plain_case b bytes false ends plain = rw ends (onto_plain b (raw_lines_of bytes) ends plain)

all_plain : (bytes : List ℕ) → ArePlain (raw_lines_of bytes)
all_plain [] = tt
all_plain (b ∷ bytes) = plain_case b bytes (b == 10) refl (all_plain bytes)

first_plain : (raws more : List RawLine) → ArePlain (raws ++ more) → ArePlain raws
first_plain [] more plain = tt
first_plain (raw ∷ raws) more plain = (plain.0, first_plain raws more plain.1)

-- every line but the last has ended
abbrev pub EndBefore : List RawLine → Type 0
EndBefore [] = Unit {0}
EndBefore (raw ∷ []) = Unit {0}
EndBefore (raw ∷ next ∷ raws) = (raw.ended ≡ true) × EndBefore (next ∷ raws)

onto_ends : (b : ℕ) (raws : List RawLine) → EndBefore raws → EndBefore (onto_first b raws)
onto_ends b [] ends = tt
onto_ends b (raw ∷ []) ends = tt
onto_ends b (raw ∷ next ∷ raws) ends = ends

after_lf : (raws : List RawLine) → EndBefore raws → EndBefore (record { bytes = []; ended = true } ∷ raws)
after_lf [] ends = tt
after_lf (raw ∷ raws) ends = (refl, ends)

ends_case : (b : ℕ) (bytes : List ℕ) (ends : Bool) → (b == 10) ≡ ends → EndBefore (raw_lines_of bytes) → EndBefore (raw_lines_of (b ∷ bytes))
ends_case b bytes true ends before = rw ends (after_lf (raw_lines_of bytes) before)
ends_case b bytes false ends before = rw ends (onto_ends b (raw_lines_of bytes) before)

all_end : (bytes : List ℕ) → EndBefore (raw_lines_of bytes)
all_end [] = tt
all_end (b ∷ bytes) = ends_case b bytes (b == 10) refl (all_end bytes)

first_end : (raws : List RawLine) (raw : RawLine) (more : List RawLine) → EndBefore (raws ++ raw ∷ more) → HaveEnded raws
first_end [] raw more ends = tt
first_end (one ∷ []) raw more ends = (ends.0, tt)
first_end (one ∷ two ∷ raws) raw more ends = (ends.0, first_end (two ∷ raws) raw more ends.1)

-- lines that have ended stand at the front of what begins with them
lines_back : (raws : List RawLine) (rest : List ℕ) → ArePlain raws → HaveEnded raws → raw_lines_of (bytes_of raws ++ rest) ≡ raws ++ raw_lines_of rest
lines_back [] rest plain ended = refl
lines_back (raw ∷ raws) rest plain ended =
    let same : bytes_of (raw ∷ raws) ++ rest ≡ raw.bytes ++ 10 ∷ (bytes_of raws ++ rest) =
    ap (λ e. (raw.bytes ++ after_end e (bytes_of raws)) ++ rest) ended.0 ∙ append_assoc raw.bytes (10 ∷ bytes_of raws) rest in
    let whole : record { bytes = raw.bytes; ended = true } ≡ raw = ap (λ e. record { bytes = raw.bytes; ended = e }) (sym ended.0) in
    ap raw_lines_of same ∙ raw_ended raw.bytes (bytes_of raws ++ rest) plain.0
    ∙ ap (λ r. r ∷ raw_lines_of (bytes_of raws ++ rest)) whole ∙ ap (λ rs. raw ∷ rs) (lines_back raws rest plain.1 ended.1)

-- ---- the lines whose LF was given

keep_one : (ended : Bool) (raw : RawLine) (kept : List RawLine) → ended ≡ true → (if ended then raw ∷ kept else kept) ≡ raw ∷ kept
keep_one true raw kept is = refl
keep_one false raw kept is = absurd (cc is)

kept_ended : (raws more : List RawLine) → HaveEnded raws → filter has_end (raws ++ more) ≡ raws ++ filter has_end more
kept_ended [] more ended = refl
kept_ended (raw ∷ raws) more ended = keep_one raw.ended raw (filter has_end (raws ++ more)) ended.0 ∙ ap (λ rs. raw ∷ rs) (kept_ended raws more ended.1)

-- a line without its LF may be the last
abbrev pub IsPart : List RawLine → Type 0
IsPart raws = (raws ≡ []) ⊎ ((bytes : List ℕ) × (raws ≡ record { bytes = bytes; ended = false } ∷ []))

part_lines : (part : List ℕ) → HasNoLf part → IsPart (raw_lines_of part)
part_lines [] plain = inl refl
part_lines (b ∷ part) plain = inr (b ∷ part, raw_last (b ∷ part) plain (omega arith))

no_end : (raws : List RawLine) → IsPart raws → filter has_end raws ≡ []
no_end raws (inl none) = ap (filter has_end) none
no_end raws (inr one) = ap (filter has_end) one.1

part_taken : (n : ℕ) (raws : List RawLine) → IsPart raws → IsPart (take n raws)
part_taken n raws (inl none) = inl (ap (take n) none ∙ take_nothing n)
part_taken zero raws (inr one) = inl refl
part_taken (suc n) raws (inr one) = inr (one.0, ap (take (suc n)) one.1 ∙ ap (λ rs. record { bytes = one.0; ended = false } ∷ rs) (take_nothing n))

short_if : (raw : RawLine) (short : Bool) → is_short raw ≡ short → (take_while is_short (raw ∷ []) ≡ []) ⊎ (take_while is_short (raw ∷ []) ≡ raw ∷ [])
short_if raw true short = inr (rw short refl)
short_if raw false short = inl (rw short refl)

part_of_short : (bytes : List ℕ) (raws : List RawLine) → (raws ≡ []) ⊎ (raws ≡ record { bytes = bytes; ended = false } ∷ []) → IsPart raws
part_of_short bytes raws (inl none) = inl none
part_of_short bytes raws (inr one) = inr (bytes, one)

part_short : (raws : List RawLine) → IsPart raws → IsPart (take_while is_short raws)
part_short raws (inl none) = inl (ap (take_while is_short) none)
part_short raws (inr one) =
    subst (λ (rs : List RawLine). IsPart (take_while is_short rs)) (sym one.1)
    (part_of_short one.0 _ (short_if (record { bytes = one.0; ended = false }) (is_short (record { bytes = one.0; ended = false })) refl))

ended_of : (raws : List RawLine) (part : List ℕ) → list_all is_short raws ≡ true → length raws ≤ max_lines → ArePlain raws → HaveEnded raws → HasNoLf part
    → ended_lines (bytes_of raws ++ part) ≡ map line_of raws
ended_of raws part short few plain ended none =
    ap (λ rs. map line_of (filter has_end (take max_lines (take_while is_short rs)))) (lines_back raws part plain ended)
    ∙ ap (λ rs. map line_of (filter has_end (take max_lines rs))) (while_past raws (raw_lines_of part) short)
    ∙ ap (λ rs. map line_of (filter has_end rs)) (take_past max_lines raws (take_while is_short (raw_lines_of part)) few)
    ∙ ap (map line_of) (kept_ended raws (take (max_lines - length raws) (take_while is_short (raw_lines_of part))) ended)
    ∙ ap (λ rs. map line_of (raws ++ rs)) (no_end _ (part_taken (max_lines - length raws) _ (part_short _ (part_lines part none))))
    ∙ ap (map line_of) (append-nil raws)

-- the bytes that a script gave before a fault, of which these lines had ended
pub record GaveLines (script left : List ℕ) (lines : List (List ℕ)) : Type 0 where
  pub given : List ℕ
  pub split : script ≡ given ++ left
  pub same : ended_lines given ≡ lines

some_raws : (bytes : List ℕ) (raws : List RawLine) → raw_lines_of bytes ≡ raws → bytes ≢ [] → (raw : RawLine) × (later : List RawLine) × (raws ≡ raw ∷ later)
some_raws bytes [] is some = absurd (some (sym (bytes_back bytes) ∙ ap bytes_of is))
some_raws bytes (raw ∷ later) is some = (raw, later, refl)

-- the lines that were read have ended: where bytes are left behind them in any case
ended_so_far : (script rest : List ℕ) (lines : List (List ℕ)) (count : ℕ) (read : IsReadSoFar script rest lines count) → AreEnded (Some script) (Some rest) → HaveEnded read.raws
ended_so_far script [] lines count read ended = subst HaveEnded (read.first ∙ append-nil read.raws) (ended refl)
ended_so_far script (b ∷ rest) lines count read ended =
    let behind = some_raws (b ∷ rest) (raw_lines_of (b ∷ rest)) refl (λ none. absurd (cc none)) in
    first_end read.raws behind.0 behind.1 (subst EndBefore (read.first ∙ ap (λ rs. read.raws ++ rs) behind.2) (all_end script))

pub gave_lines : (script rest left : List ℕ) (lines : List (List ℕ)) (count : ℕ) → IsReadSoFar script rest lines count → count ≤ max_lines → AreEnded (Some script) (Some rest)
    → StopsWithin rest left → GaveLines script left lines
gave_lines script rest left lines count read few last stops =
    let ended = ended_so_far script rest lines count read last in
    let plain = first_plain read.raws (raw_lines_of rest) (subst ArePlain read.first (all_plain script)) in
    let all : script ≡ bytes_of read.raws ++ rest = sym (bytes_back script) ∙ ap bytes_of read.first ∙ bytes_append read.raws (raw_lines_of rest) ∙ ap (λ bs. bytes_of read.raws ++ bs) (bytes_back rest) in
    record {
      given = bytes_of read.raws ++ stops.part;
      split = all ∙ ap (λ bs. bytes_of read.raws ++ bs) stops.split ∙ sym (append_assoc (bytes_of read.raws) stops.part left);
      same = ended_of read.raws stops.part read.short (omega (arith, read.counted, few)) plain ended stops.plain ∙ sym read.texts;
    }

-- lines that have ended, and more of them
both_ended : (raws more : List RawLine) → HaveEnded raws → HaveEnded more → HaveEnded (raws ++ more)
both_ended [] more ended later = later
both_ended (raw ∷ raws) more ended later = (ended.0, both_ended raws more ended.1 later)

pub ended_on : (known rest next : Option (List ℕ)) (lines : List (List ℕ)) (count : ℕ) → ReadSoFar known rest lines count → AreEnded known rest → AreEnded rest next → AreEnded known next
ended_on None rest next lines count read ended later = tt
ended_on (Some script) None next lines count read ended later = absurd read
ended_on (Some script) (Some rest) None lines count read ended later = tt
ended_on (Some script) (Some rest) (Some next) lines count read ended later = λ none.
    subst HaveEnded (sym read.first) (both_ended read.raws (raw_lines_of rest) (ended_so_far script rest lines count read ended) (later none))
