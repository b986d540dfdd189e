-- What is said to a line when its round has ended, as the lines of the round are seen.
use Rattle.std.proofs.Common.{◌≡◌, ◌<◌, ◌+◌, ◌%◌, ◌++◌, ℕ, zero, suc, List, [], ◌∷◌, length, set, get_or, true, false, Ok, Err, Result, refl, sym, ap, ◌∙◌, subst, arith, All}
use Rattle.dnr_spec.specs.Suffixes.{SuffixRule}
use Rattle.generation.specs.Basis.{Basis}
use Rattle.line_spec.specs.Line as spec
use Rattle.line_spec.specs.declared.line_fault.LineFault.{LineFault}
use Rattle.rule_spec.specs.State.{State}
use Rattle.session_rounds.proofs.Steps.{SettledTo, seat_settled, reply_settled}
use Rattle.session_rounds.specs.Lines.{is_asked, is_asking, read_seen, Fits}
use Rattle.session_rounds.specs.Rounds.{SeatTold}
use Rattle.session_rounds.specs.Writing.{WriterSays}
use Rattle.session_rounds.specs.declared.read_line.ReadLine.{ReadLine}
use Rattle.session_spec.specs.Said.{Answer}
use Rattle.update_spec.specs.Entries.{Entry}
use Rattle.session_seats.specs.Reading.{IsTaken, ReadRound, seen_line, seen_lines}
use Rattle.session_seats.specs.Writing.{WriterSaysAll, text_with, texts_with}
use Rattle.session_seats.specs.declared.round_line.RoundLine.{RoundLine}
use Rattle.session_seats.proofs.Desks.{seen_there}
use Rattle.session_seats.proofs.Offices.{all_whole, text_at, with_as_many}

-- what has an answer asks a seat
pub fits_asks : (suffixes : List SuffixRule) (read : Result spec.Command LineFault) (state : State) (answer : Answer) → Fits suffixes read state answer → is_asked read ≡ true
fits_asks suffixes (Ok spec.blank) state answer fits = absurd fits
fits_asks suffixes (Ok spec.sync) state answer fits = absurd fits
fits_asks suffixes (Ok (spec.request r)) state answer fits = refl
fits_asks suffixes (Ok (spec.explain r)) state answer fits = refl
fits_asks suffixes (Ok (spec.update one)) state answer fits = absurd fits
fits_asks suffixes (Ok (spec.batch all)) state answer fits = absurd fits
fits_asks suffixes (Err fault) state answer fits = absurd fits

-- the writer's texts, with what is said to plain lines
pub seen_written : (opening : Basis) (list : List Entry) (round : ReadRound) (lines : List RoundLine) (texts : List (List ℕ)) (last : List Entry) → lines ≡ round.lines → round.reads ≡ seen_lines round.lines → All IsTaken round.lines
    → WriterSaysAll opening list round.lines texts last → WriterSays opening list round.reads (texts_with round.lines texts) last
seen_written opening list round lines texts last same seen taken says =
    subst (λ (rs : List ReadLine). WriterSays opening list rs (texts_with round.lines texts) last) (sym seen) (all_whole opening list round.lines texts last taken says)

-- one line more: a seat answers it
pub seat_told : (opening : Basis) (floor end : List Entry) (seats : ℕ) (round : ReadRound) (lines : List RoundLine) (texts : List (List ℕ)) (lasts before was : List ℕ) (place asked seat : ℕ) (latest now grown is : List ℕ) (n count : ℕ) (line : RoundLine)
    → lines ≡ round.lines → round.reads ≡ seen_lines round.lines → place < length lines → line ≡ get_or lines place line → is_asking (seen_line line) ≡ true → seat ≡ asked % seats → seat < length latest → seat < length is
    → SeatTold opening floor end (seen_line line).number (read_seen (seen_line line).read) (get_or latest seat 0) n now grown (get_or is seat 0) count
    → SettledTo opening floor end seats round.reads texts lasts before was place asked latest now is
    → SettledTo opening floor end seats round.reads texts lasts before was (place + 1) (asked + 1) (set latest seat n) grown (set is seat count)
seat_told opening floor end seats round lines texts lasts before was place asked seat latest now grown is n count line same seen inside there asks turn known host told to =
    let at = seen_there round lines place line same seen inside there in
    seat_settled opening floor end seats round.reads texts lasts before was place asked seat latest now grown is n count (seen_line line) at.0 at.1 asks turn known host told to

-- or none does
pub reply_told : (opening : Basis) (floor end : List Entry) (seats : ℕ) (round : ReadRound) (lines : List RoundLine) (texts : List (List ℕ)) (lasts before was : List ℕ) (place asked : ℕ) (latest now grown is e : List ℕ) (line : RoundLine)
    → lines ≡ round.lines → round.reads ≡ seen_lines round.lines → length texts ≡ length round.lines → place < length lines → line ≡ get_or lines place line → is_asking (seen_line line) ≡ false
    → grown ≡ now ++ text_with line (get_or texts place e)
    → SettledTo opening floor end seats round.reads (texts_with round.lines texts) lasts before was place asked latest now is
    → SettledTo opening floor end seats round.reads (texts_with round.lines texts) lasts before was (place + 1) asked latest grown is
reply_told opening floor end seats round lines texts lasts before was place asked latest now grown is e line same seen many inside there asks grows to =
    let at = seen_there round lines place line same seen inside there in
    let long : length lines ≡ length round.lines = ap length same in
    let within : place < length round.lines = omega (arith, inside, long) in
    let text = text_with line (get_or texts place e) in
    let said : get_or (texts_with round.lines texts) place text ≡ text =
    text_at round.lines texts place line text e within (omega (arith, within, many))
    ∙ ap (λ (ls : List RoundLine). text_with (get_or ls place line) (get_or texts place e)) (sym same) ∙ ap (λ (l : RoundLine). text_with l (get_or texts place e)) (sym there) in
    reply_settled opening floor end seats round.reads (texts_with round.lines texts) lasts before was place asked latest now grown is (seen_line line) text
    at.0 (omega (arith, within, with_as_many round.lines texts many)) at.1 asks (sym said) grows to

-- a number that stays leaves all as they are
pub set_same : (xs : List ℕ) (i n : ℕ) → n ≡ get_or xs i 0 → set xs i n ≡ xs
set_same [] i n is = refl
set_same (x ∷ xs) zero n is = ap (λ (m : ℕ). m ∷ xs) is
set_same (x ∷ xs) (suc i) n is = ap (λ (l : List ℕ). x ∷ l) (set_same xs i n is)
