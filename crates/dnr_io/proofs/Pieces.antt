-- Lines that are put together from pieces.
use Rattle.std.proofs.Common.{◌≡◌, ◌≢◌, ℕ, zero, suc, ◌+◌, ◌<◌, ◌≤◌, List, [], ◌∷◌, ◌++◌, length, Bool, true, false, Option, Some, None, refl, sym, ap, ◌∙◌, subst, inr, arith, append_assoc, append-nil, length-append}
use Rattle.std.proofs.lemmas.Bool.Decides.{nat_tests}
use Rattle.std.specs.Prelude.{IfSome}
use Rattle.std.specs.Io.KnownBytes.{Consumes, IsAtEnd, prepend_known}
use Rattle.dnr_spec.specs.Lines.{RawLine, max_line, line_of, max_lines, is_short, raw_lines_of}
use Rattle.dnr_io.specs.Ahead.{HasNoLf, MovesPiece, OverflowsLine}
use Rattle.dnr_io.specs.Lines.{AreEnded, HaveEnded, StopsIn, GivesLine, IsBeyond, StartsTooLong, TakesRaw}
use Rattle.dnr_io.proofs.RawLines.{raw_ended, raw_last, raw_begins}

plain_append : (xs ys : List ℕ) → HasNoLf xs → HasNoLf ys → HasNoLf (xs ++ ys)
plain_append [] ys p q i lt = q i lt
plain_append (x ∷ xs) ys p q zero lt = p 0 (omega arith)
plain_append (x ∷ xs) ys p q (suc i) lt = plain_append xs ys (λ k h. p (suc k) (omega arith)) q i (omega arith)

-- what a piece is taken from
consumes_piece : (all : Option (List ℕ)) (before piece after line : List ℕ) (left : Option (List ℕ)) → before ≡ piece ++ after → Consumes all (prepend_known before left) line → Consumes all (prepend_known after left) (line ++ piece)
consumes_piece None before piece after line left e taken = tt
consumes_piece (Some all) before piece after line None e taken = absurd taken
consumes_piece (Some all) before piece after line (Some left) e taken =
    taken ∙ ap (λ xs. line ++ (xs ++ left)) e ∙ ap (λ xs. line ++ xs) (append_assoc piece after left) ∙ sym (append_assoc line piece (after ++ left))

-- a line without its end goes on
pub taken_more : (all : Option (List ℕ)) (before after line grown : List ℕ) (left : Option (List ℕ)) → Consumes all (prepend_known before left) line → MovesPiece before after line grown false → Consumes all (prepend_known after left) grown
taken_more all before after line grown left taken moves =
    subst (λ xs. Consumes all (prepend_known after left) xs) (sym moves.moved) (consumes_piece all before moves.piece after line left moves.first.front taken)

pub plain_more : (before after line grown : List ℕ) (ended : Bool) → HasNoLf line → MovesPiece before after line grown ended → HasNoLf grown
plain_more before after line grown ended plain moves = subst HasNoLf (sym moves.moved) (plain_append line moves.piece plain moves.first.plain)

ended_line : (all left : Option (List ℕ)) (after line : List ℕ) → Consumes all (prepend_known after left) (line ++ 10 ∷ []) → HasNoLf line → TakesRaw all (prepend_known after left) (record { bytes = line; ended = true })
ended_line None left after line taken plain = tt
ended_line (Some all) None after line taken plain = absurd taken
ended_line (Some all) (Some left) after line taken plain =
    ap raw_lines_of (taken ∙ append_assoc line (10 ∷ []) (after ++ left)) ∙ raw_ended line (after ++ left) plain

-- a line that ends at an LF
pub ended : (all : Option (List ℕ)) (before after line grown : List ℕ) (left : Option (List ℕ)) (lf : Bool) → lf ≡ true → Consumes all (prepend_known before left) line → HasNoLf line → MovesPiece before after line grown lf → TakesRaw all (prepend_known after left) (record { bytes = grown; ended = true })
ended all before after line grown left false is taken plain moves = absurd (cc is)
ended all before after line grown left true is taken plain moves =
    let with_lf : before ≡ (moves.piece ++ 10 ∷ []) ++ after = moves.first.front ∙ sym (append_assoc moves.piece (10 ∷ []) after) in
    let all_taken = consumes_piece all before (moves.piece ++ 10 ∷ []) after line left with_lf taken in
    let grown_lf : line ++ (moves.piece ++ 10 ∷ []) ≡ grown ++ 10 ∷ [] = sym (append_assoc line moves.piece (10 ∷ [])) ∙ ap (λ xs. xs ++ 10 ∷ []) (sym moves.moved) in
    ended_line all left after grown (subst (λ xs. Consumes all (prepend_known after left) xs) grown_lf all_taken) (plain_more before after line grown true plain moves)

-- the last line, which has no LF
pub last : (all left : Option (List ℕ)) (pending line : List ℕ) → Consumes all (prepend_known pending left) line → pending ≡ [] → IsAtEnd left → HasNoLf line → 0 < length line → TakesRaw all (prepend_known pending left) (record { bytes = line; ended = false })
last None left pending line taken none end plain some = tt
last (Some all) None pending line taken none end plain some = absurd taken
last (Some all) (Some left) pending line taken none end plain some =
    let is : all ≡ line = taken ∙ ap (λ xs. line ++ (xs ++ left)) none ∙ ap (λ xs. line ++ xs) end ∙ append-nil line in
    rw (is, none, end) (raw_last line plain some)

too_long : (all : List ℕ) (line piece rest left : List ℕ) → all ≡ line ++ ((piece ++ rest) ++ left) → HasNoLf line → HasNoLf piece → max_line < length line + length piece → StartsTooLong all
too_long all line piece rest left e plain plain_piece long =
    let whole : all ≡ (line ++ piece) ++ (rest ++ left) = e ∙ ap (λ xs. line ++ xs) (append_assoc piece rest left) ∙ sym (append_assoc line piece (rest ++ left)) in
    let much : max_line < length (line ++ piece) = omega (arith, length-append line piece) in
    let begins = raw_begins (line ++ piece) (rest ++ left) (plain_append line piece plain plain_piece) (omega arith) in record {
      raw = begins.raw;
      later = begins.later;
      first = rw whole begins.first;
      long = omega (arith, begins.long);
    }

-- a line that is too long
pub overflows : (all : Option (List ℕ)) (before line : List ℕ) (left : Option (List ℕ)) → Consumes all (prepend_known before left) line → HasNoLf line → OverflowsLine before line → IfSome all StartsTooLong
overflows None before line left taken plain h = tt
overflows (Some all) before line None taken plain h = absurd taken
overflows (Some all) before line (Some left) taken plain h =
    too_long all line h.piece h.rest left (taken ∙ ap (λ xs. line ++ (xs ++ left)) h.front) plain h.plain h.long

cons_nil : (b : ℕ) (bytes : List ℕ) → b ∷ bytes ≢ []
cons_nil b bytes e = cc

-- a line that is one too many
pub one_more : (was : Option (List ℕ)) (pending : List ℕ) (left : Option (List ℕ)) (count : ℕ) → prepend_known pending left ≡ was → 0 < length pending → max_lines ≤ count → IfSome was (IsBeyond count)
one_more was [] left count e some full = absurd (omega arith)
one_more was (b ∷ pending) None count e some full = subst (λ w. IfSome w (IsBeyond count)) e tt
one_more was (b ∷ pending) (Some left) count e some full = subst (λ w. IfSome w (IsBeyond count)) e (inr ((λ (none : _). absurd (cons_nil b (pending ++ left) none)), full))

short_is : (bytes : List ℕ) (ended : Bool) → length bytes ≤ max_line → is_short (record { bytes = bytes; ended = ended }) ≡ true
short_is bytes ended short = grind (arith, nat_tests, short)

-- a line is a raw line of which the CR before its LF is dropped
pub gives_line : (all rest : Option (List ℕ)) (bytes line : List ℕ) (ended : Bool) → TakesRaw all rest (record { bytes = bytes; ended = ended }) → line ≡ line_of (record { bytes = bytes; ended = ended }) → length bytes ≤ max_line → GivesLine all rest line
gives_line all rest bytes line ended first text short = record {
  raw = record { bytes = bytes; ended = ended };
  first = first;
  text = text;
  short = short_is bytes ended short;
}

-- the source failed behind a part of a line
pub stopped_within : (was left : Option (List ℕ)) (pending line : List ℕ) → pending ≡ [] → Consumes was (prepend_known pending left) line → HasNoLf line → StopsIn was left
stopped_within None left pending line none taken plain = tt
stopped_within (Some all) None pending line none taken plain = tt
stopped_within (Some all) (Some left) pending line none taken plain = record { part = line; plain = plain; split = taken ∙ ap (λ p. line ++ (p ++ left)) none }

nothing_plain : HasNoLf []
nothing_plain i inside = absurd (omega (arith, inside))

-- it failed before a line
pub stopped_before : (was left : Option (List ℕ)) (pending : List ℕ) → pending ≡ [] → prepend_known pending left ≡ was → StopsIn was left
stopped_before None left pending none same = tt
stopped_before (Some all) None pending none same = tt
stopped_before (Some all) (Some left) pending none same = record { part = []; plain = nothing_plain; split = cc (sym same, ap (λ p. p ++ left) none) }

-- ---- a line that stands whole in what was read

nothing_taken : (pending : List ℕ) (left : Option (List ℕ)) → Consumes (prepend_known pending left) (prepend_known pending left) []
nothing_taken pending None = tt
nothing_taken pending (Some left) = refl

whole_taken : (before after line grown : List ℕ) (left : Option (List ℕ)) → line ≡ [] → MovesPiece before after line grown true → TakesRaw (prepend_known before left) (prepend_known after left) (record { bytes = grown; ended = true })
whole_taken before after line grown left none moves =
    ended (prepend_known before left) before after [] grown left true refl (nothing_taken before left) nothing_plain (subst (λ xs. MovesPiece before after xs grown true) none moves)

pub gives_whole : (before after line grown text : List ℕ) (left : Option (List ℕ)) → line ≡ [] → MovesPiece before after line grown true → text ≡ line_of (record { bytes = grown; ended = true }) → length grown ≤ max_line
    → GivesLine (prepend_known before left) (prepend_known after left) text
gives_whole before after line grown text left none moves same short =
    gives_line (prepend_known before left) (prepend_known after left) grown text true (whole_taken before after line grown left none moves) same short

ended_raw : (all rest : Option (List ℕ)) (raw : RawLine) → raw.ended ≡ true → TakesRaw all rest raw → AreEnded all rest
ended_raw None rest raw is takes = tt
ended_raw (Some all) None raw is takes = tt
ended_raw (Some all) (Some rest) raw is takes = λ none. subst HaveEnded (sym (takes ∙ ap (λ bytes. raw ∷ raw_lines_of bytes) none)) (is, tt)

pub ended_whole : (before after line grown : List ℕ) (left : Option (List ℕ)) → line ≡ [] → MovesPiece before after line grown true → AreEnded (prepend_known before left) (prepend_known after left)
ended_whole before after line grown left none moves =
    ended_raw (prepend_known before left) (prepend_known after left) (record { bytes = grown; ended = true }) refl (whole_taken before after line grown left none moves)
