-- What a pass answers to a request.
use Rattle.std.specs.Prelude.{◌≡◌, ◌++◌, ℕ, List, [], ◌∷◌, length, Result}
use Rattle.generation.specs.Basis.{Basis}
use Rattle.line_spec.specs.Line.{Command}
use Rattle.line_spec.specs.declared.line_fault.LineFault.{LineFault}
use Rattle.session_rounds.specs.Lines.{Fits}
use Rattle.session_spec.specs.Said.{Answer, answer_line, decided, explained, failed, is_failed}
use Rattle.update_spec.specs.Entries.{Entry, replay}
use Rattle.session_seats.specs.Said.{Said}
use Rattle.session_seats.specs.Seats.{SaysAt}
use Rattle.session_seats.specs.declared.told.Told.{Told}
use Rattle.session_seats.specs.declared.told.Told.TheVariants as told

-- after how many updates it is answered
abbrev pub number_of : Told → ℕ
number_of (told.Decided answer) = answer.number
number_of (told.Explained answer) = answer.number
number_of (told.Failed number rule) = number

abbrev pub answer_of : Told → Answer
answer_of (told.Decided answer) = decided answer.verdict
answer_of (told.Explained answer) = explained answer.explanation
answer_of (told.Failed number rule) = failed rule

-- as it is said to the line of this number, at this place
abbrev pub said_of : ℕ → ℕ → Told → Said
said_of place line told = record {
  place = place;
  number = number_of told;
  failed = is_failed (answer_of told);
  text = answer_line line (number_of told) (answer_of told);
}

-- it answers what is asked, after all these entries
pub record IsTold (opening : Basis) (read : Result Command LineFault) (seen : List Entry) (told : Told) : Type 0 where
  pub counted : number_of told ≡ length seen
  pub fits : Fits opening.suffixes read (replay opening.state seen) (answer_of told)

-- an answer more was kept, which says this to the line of this number, at this place
pub record SaysMore (opening : Basis) (place number : ℕ) (read : Result Command LineFault) (seen : List Entry) (before now : List Said) : Type 0 where
  pub said : Said
  pub says : SaysAt opening place number read seen said
  pub more : now ≡ before ++ said ∷ []
