-- What the writer has said to the lines of a round so far.
use Rattle.std.proofs.Common.{◌≡◌, ℕ, zero, suc, ◌+◌, ◌<◌, ◌≤◌, List, [], ◌∷◌, ◌++◌, length, drop, get_or, Bool, true, false, Result, Ok, Err, OnOk, is_err, refl, sym, ap, ◌∙◌, subst, arith, append_assoc, append-nil, All}
use Rattle.std.proofs.lemmas.List.{drop_more, drop_all}
use Rattle.std.proofs.lemmas.List.Elements.{All-head, All-rest}
use mathlib.Core.List.{IsPrefix}
use Rattle.generation.specs.Basis.{Basis}
use Rattle.line_spec.specs.declared.line_fault.LineFault.{LineFault}
use Rattle.script_read.specs.declared.command.Command.{Command}
use Rattle.script_read.specs.declared.command.Command.TheVariants.{Blank}
use Rattle.line_spec.specs.Line as spec
use Rattle.line_spec.specs.Line.{command_of}
use Rattle.lines_ahead.specs.Plain.{IsRequestAtMost}
use Rattle.published.proofs.Beginnings.{begins_itself, begins_on}
use Rattle.session_rounds.proofs.Whole.{goes_on_begins}
use Rattle.session_rounds.specs.Lines.{is_asked, read_seen}
use Rattle.session_rounds.specs.Writing.{Replied, WriterLine, WriterSaid, WriterSays}
use Rattle.session_spec.specs.Output.{bad_line}
use Rattle.update_spec.specs.Entries.{Entry}
use Rattle.session_seats.proofs.Replies.{bad_said, blank_said}
use Rattle.session_seats.specs.Reading.{IsTaken, plain_read, seen_line, seen_lines}
use Rattle.session_seats.specs.Writing.{OfficeSeen, WriterSaysTo, WriterSaysAll, WroteAll, HasWritten, plain_text, text_with, texts_with}
use Rattle.session_seats.specs.declared.round_line.RoundLine.{RoundLine}
use Rattle.session_seats.specs.declared.round_line.RoundLine.TheVariants as round

-- to a blank line nothing is said
pub blank_line_said : (opening : Basis) (number : ℕ) (read : Result Command LineFault) (command : Command) (list : List Entry) (text : List ℕ) → read ≡ Ok command → command ≡ Blank
    → Replied opening number (read_seen read) list text text list
blank_line_said opening number read command list text is blank =
    subst (λ (r : Result Command LineFault). Replied opening number (read_seen r) list text text list) (sym (is ∙ ap Ok blank)) (blank_said opening number list text)

-- ---- all lines

-- what is said to the lines from this place on makes what is said to all
abbrev pub SaidSoFar : Basis → List RoundLine → List Entry → ℕ → List Entry → List (List ℕ) → Type 0
SaidSoFar opening lines first place list texts =
    (others : List (List ℕ)) (last : List Entry) → WriterSaysAll opening list (drop place lines) others last → WriterSaysAll opening first lines (texts ++ others) last

pub nothing_said : (opening : Basis) (lines : List RoundLine) (first : List Entry) (texts : List (List ℕ)) → texts ≡ [] → SaidSoFar opening lines first 0 first texts
nothing_said opening lines first texts none others last says = rw none says

one_said : (opening : Basis) (lines : List RoundLine) (first : List Entry) (place : ℕ) (line : RoundLine) (list next : List Entry) (texts : List (List ℕ)) (text : List ℕ)
    → place < length lines → line ≡ get_or lines place line → SaidSoFar opening lines first place list texts → WriterSaysTo opening line list text next
    → SaidSoFar opening lines first (place + 1) next (texts ++ text ∷ [])
one_said opening lines first place line list next texts text inside is so_far said others last says =
    let step : WriterSaysAll opening list (line ∷ drop (place + 1) lines) (text ∷ others) last = record { text = text; next = next; others = others; all = refl; first = said; rest = says } in
    let here : WriterSaysAll opening list (get_or lines place line ∷ drop (place + 1) lines) (text ∷ others) last =
    subst (λ (l : RoundLine). WriterSaysAll opening list (l ∷ drop (place + 1) lines) (text ∷ others) last) is step in
    let there : WriterSaysAll opening list (drop place lines) (text ∷ others) last =
    subst (λ (ls : List RoundLine). WriterSaysAll opening list ls (text ∷ others) last) (sym (drop_more lines place line inside)) here in
    subst (λ (ts : List (List ℕ)). WriterSaysAll opening first lines ts last) (sym (append_assoc texts (text ∷ []) others)) (so_far (text ∷ others) last there)

-- one line more was answered, and its text kept
pub line_said : (opening : Basis) (lines : List RoundLine) (first : List Entry) (place : ℕ) (line : RoundLine) (list said kept : List Entry) (texts still now : List (List ℕ)) (text : List ℕ)
    → place < length lines → line ≡ get_or lines place line → WriterSaysTo opening line list text said → kept ≡ said → still ≡ texts → now ≡ still ++ text ∷ []
    → SaidSoFar opening lines first place list texts → SaidSoFar opening lines first (place + 1) kept now
line_said opening lines first place line list said kept texts still now text inside is says stays same grown so_far =
    subst (λ (l : List Entry). SaidSoFar opening lines first (place + 1) l now) (sym stays)
    (subst (λ (ts : List (List ℕ)). SaidSoFar opening lines first (place + 1) said ts) (sym (grown ∙ ap (λ (ts : List (List ℕ)). ts ++ text ∷ []) same))
    (one_said opening lines first place line list said texts text inside is so_far says))

pub all_said : (opening : Basis) (lines : List RoundLine) (first : List Entry) (place : ℕ) (list : List Entry) (texts : List (List ℕ)) → length lines ≤ place
    → SaidSoFar opening lines first place list texts → WriterSaysAll opening first lines texts list
all_said opening lines first place list texts past so_far =
    subst (λ (ts : List (List ℕ)). WriterSaysAll opening first lines ts list) (append-nil texts)
    (so_far [] list (subst (λ (ls : List RoundLine). WriterSaysAll opening list ls [] list) (sym (drop_all place lines past)) (refl, refl)))

-- all lines were answered, unless want of memory was noted
pub all_answered : {T E : Type 0} (result : Result T E) (opening : Basis) (first : List Entry) (lines there : List RoundLine) (list staged : List Entry) (texts : List (List ℕ)) (was noted : Bool) (after : OfficeSeen)
    → lines ≡ there → after ≡ record { list = list; staged = staged; texts = texts; stopped = was } → noted ≡ is_err result → OnOk result (WroteAll opening first lines after)
    → HasWritten opening first there (record { list = list; staged = staged; texts = texts; stopped = noted })
all_answered (Ok x) opening first lines there list staged texts was noted after same is tells wrote calm =
    let all : WroteAll opening first there (record { list = list; staged = staged; texts = texts; stopped = was }) =
    subst (λ (o : OfficeSeen). WroteAll opening first there o) is (subst (λ (ls : List RoundLine). WroteAll opening first ls after) same wrote) in
    record { says = all.says; idle = all.idle }
all_answered (Err e) opening first lines there list staged texts was noted after same is tells wrote calm = let wrong : ⊥ = cc in absurd wrong

-- ---- what is said to plain lines beside

-- to one that asks a seat nothing, and to another what it says
plain_said : (opening : Basis) (number : ℕ) (read : Result spec.Command LineFault) (list next : List Entry) (text : List ℕ) → IsRequestAtMost read → text ≡ [] → next ≡ list
    → WriterSaid (is_asked (read_seen (plain_read read))) opening number (read_seen (plain_read read)) list (plain_text number read) next
plain_said opening number (Ok spec.blank) list next text most none stays = subst (λ (l : List Entry). Replied opening number (Ok spec.blank) list [] [] l) (sym stays) (blank_said opening number list [])
plain_said opening number (Ok spec.sync) list next text most none stays = absurd most
plain_said opening number (Ok (spec.request r)) list next text most none stays = (refl, stays)
plain_said opening number (Ok (spec.explain r)) list next text most none stays = absurd most
plain_said opening number (Ok (spec.update one)) list next text most none stays = absurd most
plain_said opening number (Ok (spec.batch all)) list next text most none stays = absurd most
plain_said opening number (Err fault) list next text most none stays =
    subst (λ (l : List Entry). Replied opening number (Err fault) list [] (bad_line number fault) l) (sym stays) (bad_said {T = Unit {0}} {E = Unit {0}} (Ok tt) opening number fault list [] (bad_line number fault) refl)

one_whole : (opening : Basis) (line : RoundLine) (list next : List Entry) (text : List ℕ) → IsTaken line → WriterSaysTo opening line list text next → WriterLine opening (seen_line line) list (text_with line text) next
one_whole opening (round.Read line) list next text taken said = said
one_whole opening (round.Plain line) list next text taken said = plain_said opening line.number (command_of line.number line.bytes) list next text taken.most said.0 said.1

-- so each line has what it says
pub all_whole : (opening : Basis) (list : List Entry) (lines : List RoundLine) (texts : List (List ℕ)) (last : List Entry) → All IsTaken lines → WriterSaysAll opening list lines texts last
    → WriterSays opening list (seen_lines lines) (texts_with lines texts) last
all_whole opening list [] texts last taken says = says
all_whole opening list (line ∷ lines) texts last taken says =
    record {
      text = text_with line says.text;
      next = says.next;
      others = texts_with lines says.others;
      all = ap (texts_with (line ∷ lines)) says.all;
      first = one_whole opening line list says.next says.text (All-head IsTaken line lines taken) says.first;
      rest = all_whole opening says.next lines says.others last (All-rest IsTaken line lines (line ∷ lines) refl taken) says.rest;
    }

pub as_many : (opening : Basis) (list : List Entry) (lines : List RoundLine) (texts : List (List ℕ)) (last : List Entry) → WriterSaysAll opening list lines texts last → length texts ≡ length lines
as_many opening list [] texts last says = ap length says.0
as_many opening list (line ∷ lines) texts last says = let more = as_many opening says.next lines says.others last says.rest in omega (arith, more, ap length says.all)

pub text_at : (lines : List RoundLine) (texts : List (List ℕ)) (place : ℕ) (line : RoundLine) (d e : List ℕ) → place < length lines → place < length texts
    → get_or (texts_with lines texts) place d ≡ text_with (get_or lines place line) (get_or texts place e)
text_at [] texts place line d e inside within = absurd (omega (arith, inside))
text_at (l ∷ lines) [] place line d e inside within = absurd (omega (arith, within))
text_at (l ∷ lines) (t ∷ texts) zero line d e inside within = refl
text_at (l ∷ lines) (t ∷ texts) (suc place) line d e inside within = text_at lines texts place line d e (omega (arith, inside)) (omega (arith, within))

pub with_as_many : (lines : List RoundLine) (texts : List (List ℕ)) → length texts ≡ length lines → length (texts_with lines texts) ≡ length lines
with_as_many [] texts many = many
with_as_many (l ∷ lines) [] many = absurd (omega (arith, many))
with_as_many (l ∷ lines) (t ∷ texts) many = omega (arith, with_as_many lines texts (omega (arith, many)))

-- ---- the entries of a round

line_begins : (asked : Bool) (opening : Basis) (number : ℕ) (read : Result spec.Command LineFault) (list next : List Entry) (text : List ℕ) → WriterSaid asked opening number read list text next → IsPrefix list next
line_begins true opening number read list next text said = subst (λ (l : List Entry). IsPrefix list l) (sym said.1) (begins_itself list)
line_begins false opening number read list next text said = goes_on_begins list next said.goes_on

one_begins : (opening : Basis) (line : RoundLine) (list next : List Entry) (text : List ℕ) → WriterSaysTo opening line list text next → IsPrefix list next
one_begins opening (round.Read line) list next text said = line_begins (is_asked (read_seen line.value.read)) opening line.value.number (read_seen line.value.read) list next text said
one_begins opening (round.Plain line) list next text said = subst (λ (l : List Entry). IsPrefix list l) (sym said.1) (begins_itself list)

-- the entries before the lines begin those after them
pub all_begin : (opening : Basis) (list : List Entry) (lines : List RoundLine) (texts : List (List ℕ)) (last : List Entry) → WriterSaysAll opening list lines texts last → IsPrefix list last
all_begin opening list [] texts last says = subst (λ (l : List Entry). IsPrefix list l) (sym says.1) (begins_itself list)
all_begin opening list (line ∷ lines) texts last says =
    begins_on list says.next last (one_begins opening line list says.next says.text says.first) (all_begin opening says.next lines says.others last says.rest)
