-- What the writer has said to the lines of a round.
use Rattle.std.specs.Prelude.{◌≡◌, ℕ, List, [], ◌∷◌, Bool, false, Result, Ok, Err}
use Rattle.generation.specs.Basis.{Basis}
use Rattle.update_spec.specs.Entries.{Entry}
use Rattle.line_spec.specs.Line.{Command, command_of}
use Rattle.line_spec.specs.declared.line_fault.LineFault.{LineFault}
use Rattle.session_spec.specs.Output.{bad_line}
use Rattle.session_rounds.specs.Writing.{FirstText, WriterLine}
use Rattle.session_seats.specs.declared.round_line.RoundLine.{RoundLine}
use Rattle.session_seats.specs.declared.round_line.RoundLine.TheVariants as round

-- a writer: the accepted entries, the one that is staged, what was said to the lines, and whether memory ran out
pub record OfficeSeen : Type 0 where
  pub list : List Entry
  pub staged : List Entry
  pub texts : List (List ℕ)
  pub stopped : Bool

-- what the writer says to a line: nothing where the line was left to a seat to read
abbrev pub WriterSaysTo : Basis → RoundLine → List Entry → List ℕ → List Entry → Type 0
WriterSaysTo opening (round.Read line) list text next = WriterLine opening line.value list text next
WriterSaysTo opening (round.Plain line) list text next = (text ≡ []) × (next ≡ list)

-- the same of lines, one text for each, and the entries after them
abbrev pub WriterSaysAll : Basis → List Entry → List RoundLine → List (List ℕ) → List Entry → Type 0
WriterSaysAll opening list [] texts last = (texts ≡ []) × (last ≡ list)
WriterSaysAll opening list (line ∷ lines) texts last =
    FirstText texts (λ text next. WriterSaysTo opening line list text next) (λ next others. WriterSaysAll opening next lines others last)

-- each line has its text, and nothing is staged
pub record WroteAll (opening : Basis) (first : List Entry) (lines : List RoundLine) (office : OfficeSeen) : Type 0 where
  pub says : WriterSaysAll opening first lines office.texts office.list
  pub idle : office.staged ≡ []

-- unless memory ran out
abbrev pub HasWritten : Basis → List Entry → List RoundLine → OfficeSeen → Type 0
HasWritten opening first lines office = office.stopped ≡ false → WroteAll opening first lines office

-- ---- what is said to a plain line that asks no seat

-- that it is a bad one, if it is
abbrev pub plain_text : ℕ → Result Command LineFault → List ℕ
plain_text number (Ok command) = []
plain_text number (Err fault) = bad_line number fault

-- the text of the writer for a line, with what is said to a plain one
abbrev pub text_with : RoundLine → List ℕ → List ℕ
text_with (round.Read line) text = text
text_with (round.Plain line) text = plain_text line.number (command_of line.number line.bytes)

abbrev pub texts_with : List RoundLine → List (List ℕ) → List (List ℕ)
texts_with [] texts = texts
texts_with (line ∷ lines) [] = []
texts_with (line ∷ lines) (text ∷ texts) = text_with line text ∷ texts_with lines texts
