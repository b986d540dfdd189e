-- The rounds that stand written are the first of a script.
use Rattle.std.proofs.Common.{◌≡◌, ℕ, zero, suc, ◌+◌, ◌≤◌, List, [], ◌∷◌, ◌++◌, length, take, drop, true, false, ◌==◌, nat_le, refl, sym, ap, ◌∙◌, ⊎_elim, subst, arith, append_assoc, append-nil, one-add, take_all}
use Rattle.std.specs.Prelude.{filter, map, take_while}
use Rattle.std.specs.List.{list_all}
use Rattle.std.proofs.lemmas.Bool.{cases_Bool, and_parts}
use Rattle.std.proofs.lemmas.Bool.Decides.{nat_tests}
use Rattle.std.proofs.lemmas.List.{take-append-drop, map-append}
use Rattle.dnr_spec.specs.Lines.{RawLine, onto_first as onto_line, raw_lines_of, line_of, is_short, lines_of, max_lines, is_within_limits}
use Rattle.session_spec.specs.Rounds.{Held, holds_nothing, with_line, ends_round, onto_first, rounds_from, rounds_of, onto_whole, whole_rounds_from, whole_rounds_of, short_lines, has_end, ended_lines}

-- the list begins with these
pub record Begins (X : Type 0) (front whole : List X) : Type 0 where
  pub rest : List X
  pub split : whole ≡ front ++ rest

pub begins_on : (X : Type 0) (one two three : List X) → Begins X one two → Begins X two three → Begins X one three
begins_on X one two three first second = record {
  rest = first.rest ++ second.rest;
  split = second.split ∙ ap (λ l. l ++ second.rest) first.split ∙ append_assoc one first.rest second.rest;
}

pub begins_all : (X : Type 0) (whole : List X) → Begins X whole whole
begins_all X whole = record { rest = []; split = sym (append-nil whole) }

pub begins_taken : (X : Type 0) (count : ℕ) (whole : List X) → Begins X (take count whole) whole
begins_taken X count whole = record { rest = drop count whole; split = sym (take-append-drop count whole) }

-- ---- the lines of first bytes

abbrev AllEnded : List RawLine → Type 0
AllEnded [] = Unit {0}
AllEnded (line ∷ lines) = (line.ended ≡ true) × AllEnded lines

abbrev NoneEnded : List RawLine → Type 0
NoneEnded [] = Unit {0}
NoneEnded (line ∷ lines) = (line.ended ≡ false) × NoneEnded lines

-- Of these lines those that have ended stay, whatever comes.
record StaysOn (given whole : List RawLine) : Type 0 where
  ended : List RawLine
  still : List RawLine
  more : List RawLine
  here : given ≡ ended ++ still
  later : whole ≡ ended ++ more
  all : AllEnded ended
  none : NoneEnded still

one_byte_still : (b : ℕ) (still : List RawLine) → NoneEnded still → NoneEnded (onto_line b still)
one_byte_still b [] none = (refl, tt)
one_byte_still b (line ∷ still) none = none

one_byte : (b : ℕ) (ended still more : List RawLine) → AllEnded ended → NoneEnded still → StaysOn (onto_line b (ended ++ still)) (onto_line b (ended ++ more))
one_byte b [] still more all none = record {
  ended = [];
  still = onto_line b still;
  more = onto_line b more;
  here = refl;
  later = refl;
  all = tt;
  none = one_byte_still b still none;
}
one_byte b (line ∷ ended) still more all none = record {
  ended = record { bytes = b ∷ line.bytes; ended = line.ended } ∷ ended;
  still = still;
  more = more;
  here = refl;
  later = refl;
  all = all;
  none = none;
}

one_end : (given whole : List RawLine) → StaysOn given whole → StaysOn (record { bytes = []; ended = true } ∷ given) (record { bytes = []; ended = true } ∷ whole)
one_end given whole stays = record {
  ended = record { bytes = []; ended = true } ∷ stays.ended;
  still = stays.still;
  more = stays.more;
  here = ap (λ l. record { bytes = []; ended = true } ∷ l) stays.here;
  later = ap (λ l. record { bytes = []; ended = true } ∷ l) stays.later;
  all = (refl, stays.all);
  none = stays.none;
}

stays_on : (given left : List ℕ) → StaysOn (raw_lines_of given) (raw_lines_of (given ++ left))
stays_on [] left = record { ended = []; still = []; more = raw_lines_of left; here = refl; later = refl; all = tt; none = tt }
stays_on (b ∷ given) left =
    let stays = stays_on given left in
    ⊎_elim
    (λ (ends : (b == 10) ≡ true). rw ends (one_end (raw_lines_of given) (raw_lines_of (given ++ left)) stays))
    (λ (goes_on : (b == 10) ≡ false).
    rw (goes_on, stays.here, stays.later) (one_byte b stays.ended stays.still stays.more stays.all stays.none))
    (cases_Bool (b == 10))

while_on : (line : RawLine) (lines : List RawLine) → is_short line ≡ true → take_while is_short (line ∷ lines) ≡ line ∷ take_while is_short lines
while_on line lines short = rw (short, one-add) refl

while_off : (line : RawLine) (lines : List RawLine) → is_short line ≡ false → take_while is_short (line ∷ lines) ≡ []
while_off line lines long = rw long refl

-- the lines that are short, and not too many
abbrev kept : ℕ → List RawLine → List RawLine
kept most lines = take most (take_while is_short lines)

-- of such lines that have not ended none is read
none_read : (most : ℕ) (still : List RawLine) → NoneEnded still → filter has_end (kept most still) ≡ []
none_read zero still none = refl
none_read (suc most) [] none = refl
none_read (suc most) (line ∷ still) none =
    ⊎_elim
    (λ (short : is_short line ≡ true).
    let open_end : line.ended ≡ false = none.0 in
    let later : filter has_end (line ∷ kept most still) ≡ [] = rw open_end (none_read most still none.1) in
    ap (λ l. filter has_end (take (suc most) l)) (while_on line still short) ∙ later)
    (λ (long : is_short line ≡ false). ap (λ l. filter has_end (take (suc most) l)) (while_off line still long))
    (cases_Bool (is_short line))

read_first : (most : ℕ) (ended still more : List RawLine) → AllEnded ended → NoneEnded still → Begins RawLine (filter has_end (kept most (ended ++ still))) (kept most (ended ++ more))
read_first most [] still more all none =
    let nothing = none_read most still none in record { rest = kept most more; split = ap (λ l. l ++ kept most more) (sym nothing) }
read_first zero (line ∷ ended) still more all none = record { rest = []; split = refl }
read_first (suc most) (line ∷ ended) still more all none =
    ⊎_elim
    (λ (short : is_short line ≡ true).
    let later = read_first most ended still more all.1 none in
    let closed : line.ended ≡ true = all.0 in
    let first : filter has_end (line ∷ kept most (ended ++ still)) ≡ line ∷ filter has_end (kept most (ended ++ still)) = rw closed refl in
    record {
      rest = later.rest;
      split = ap (take (suc most)) (while_on line (ended ++ more) short) ∙ ap (λ l. line ∷ l) later.split
          ∙ ap (λ l. l ++ later.rest) (sym (ap (λ l. filter has_end (take (suc most) l)) (while_on line (ended ++ still) short) ∙ first));
    })
    (λ (long : is_short line ≡ false). record {
      rest = [];
      split = ap (take (suc most)) (while_off line (ended ++ more) long)
          ∙ ap (λ l. l ++ []) (sym (ap (λ l. filter has_end (take (suc most) l)) (while_off line (ended ++ still) long)));
    })
    (cases_Bool (is_short line))

-- the lines whose LF stands in the first bytes are the first of the script
pub lines_given : (given left : List ℕ) → Begins (List ℕ) (ended_lines given) (short_lines (given ++ left))
lines_given given left =
    let stays = stays_on given left in
    let read = read_first max_lines stays.ended stays.still stays.more stays.all stays.none in
    record {
      rest = map line_of read.rest;
      split = ap (λ l. map line_of (kept max_lines l)) stays.later ∙ ap (map line_of) read.split
          ∙ map-append line_of (filter has_end (kept max_lines (stays.ended ++ stays.still))) read.rest
          ∙ ap (λ l. map line_of (filter has_end (kept max_lines l)) ++ map line_of read.rest) (sym stays.here);
    }

-- ---- the rounds of first lines

onto_first_whole : (line : List ℕ) (rounds more : List (List (List ℕ))) → Begins (List (List ℕ)) (onto_whole line rounds) (onto_whole line (rounds ++ more))
onto_first_whole line [] more = record { rest = onto_whole line more; split = refl }
onto_first_whole line (round ∷ rounds) more = record { rest = more; split = refl }

-- rounds that have ended stay, whatever comes
whole_stay : (held : Held) (number : ℕ) (lines more : List (List ℕ)) → Begins (List (List ℕ)) (whole_rounds_from held number lines) (whole_rounds_from held number (lines ++ more))
whole_stay held number [] more = record { rest = whole_rounds_from held number more; split = refl }
whole_stay held number (line ∷ lines) more =
    ⊎_elim
    (λ (ends : ends_round held number line ≡ true).
    let later = whole_stay holds_nothing (number + 1) lines more in
    record { rest = later.rest; split = rw ends (ap (λ l. (line ∷ []) ∷ l) later.split) })
    (λ (goes_on : ends_round held number line ≡ false).
    let rounds = whole_rounds_from (with_line held number line) (number + 1) lines in
    let later = whole_stay (with_line held number line) (number + 1) lines more in
    let on = onto_first_whole line rounds later.rest in
    record { rest = on.rest; split = rw goes_on (ap (onto_whole line) later.split ∙ on.split) })
    (cases_Bool (ends_round held number line))

onto_whole_first : (line : List ℕ) (rounds more : List (List (List ℕ))) → Begins (List (List ℕ)) (onto_whole line rounds) (onto_first line (rounds ++ more))
onto_whole_first line [] more = record { rest = onto_first line more; split = refl }
onto_whole_first line (round ∷ rounds) more = record { rest = more; split = refl }

-- the rounds that have ended are the first of all
whole_first : (held : Held) (number : ℕ) (lines : List (List ℕ)) → Begins (List (List ℕ)) (whole_rounds_from held number lines) (rounds_from held number lines)
whole_first held number [] = record { rest = []; split = refl }
whole_first held number (line ∷ lines) =
    ⊎_elim
    (λ (ends : ends_round held number line ≡ true).
    let later = whole_first holds_nothing (number + 1) lines in
    record { rest = later.rest; split = rw ends (ap (λ l. (line ∷ []) ∷ l) later.split) })
    (λ (goes_on : ends_round held number line ≡ false).
    let rounds = whole_rounds_from (with_line held number line) (number + 1) lines in
    let later = whole_first (with_line held number line) (number + 1) lines in
    let on = onto_whole_first line rounds later.rest in
    record { rest = on.rest; split = rw goes_on (ap (onto_first line) later.split ∙ on.split) })
    (cases_Bool (ends_round held number line))

-- the whole rounds of what was given are the first of those of the script
pub rounds_given : (given left : List ℕ) → Begins (List (List ℕ)) (whole_rounds_of (ended_lines given)) (whole_rounds_of (short_lines (given ++ left)))
rounds_given given left =
    let lines = lines_given given left in
    subst (λ (ls : List (List ℕ)). Begins (List (List ℕ)) (whole_rounds_of (ended_lines given)) (whole_rounds_of ls)) (sym lines.split)
    (whole_stay holds_nothing 1 (ended_lines given) lines.rest)

-- ---- a script within the limits

all_short : (lines : List RawLine) → list_all is_short lines ≡ true → take_while is_short lines ≡ lines
all_short [] all = refl
all_short (line ∷ lines) all =
    let both = and_parts (is_short line) (list_all is_short lines) all in
    while_on line lines both.0 ∙ ap (λ l. line ∷ l) (all_short lines both.1)

pub short_within : (script : List ℕ) → is_within_limits script ≡ true → short_lines script ≡ lines_of script
short_within script within =
    let raw = raw_lines_of script in
    let both = and_parts (list_all is_short raw) (nat_le (length raw) max_lines) within in
    let few : length raw ≤ max_lines = let test = both.1 in grind (arith, nat_tests) in
    ap (λ l. map line_of (take max_lines l)) (all_short raw both.0) ∙ ap (map line_of) (take_all max_lines raw few)

-- of such a script the whole rounds are the first of all
pub rounds_within : (script : List ℕ) → is_within_limits script ≡ true → Begins (List (List ℕ)) (whole_rounds_of (short_lines script)) (rounds_of (lines_of script))
rounds_within script within =
    subst (λ (ls : List (List ℕ)). Begins (List (List ℕ)) (whole_rounds_of (short_lines script)) (rounds_of ls)) (short_within script within) (whole_first holds_nothing 1 (short_lines script))
