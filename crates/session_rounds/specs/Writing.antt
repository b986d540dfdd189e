-- What the writer says to the lines of a round, and the entries that are accepted after them.
use Rattle.std.specs.Prelude.{◌≡◌, ◌⊎◌, ℕ, List, [], ◌∷◌, ◌++◌, Bool, true, false, Result}
use Rattle.generation.specs.Basis.{Basis}
use Rattle.update_spec.specs.Entries.{Entry, replay}
use Rattle.line_spec.specs.Line.{Command}
use Rattle.line_spec.specs.declared.line_fault.LineFault.{LineFault}
use Rattle.session_serve.specs.Told.{ReplyTold}
use Rattle.session_spec.specs.Answers.{Setting}
use Rattle.session_rounds.specs.Lines.{read_seen, is_asked}
use Rattle.session_rounds.specs.declared.read_line.ReadLine.{ReadLine}

-- what the writer's answers rest on: no seat has a part in them
abbrev pub writing : Basis → Setting
writing opening = record { suffixes = opening.suffixes; workers = 0; updates = true; follows = false }

-- at most one entry was accepted
abbrev pub GoesOn : List Entry → List Entry → Type 0
GoesOn list next = (next ≡ list) ⊎ ((entry : Entry) × (next ≡ list ++ entry ∷ []))

-- the writer answered, and appended what it said to a text
pub record Replied (opening : Basis) (number : ℕ) (read : Result Command LineFault) (list : List Entry) (before now : List ℕ) (next : List Entry) : Type 0 where
  pub told : ReplyTold (writing opening) (replay opening.state list) number read before now (replay opening.state next)
  pub goes_on : GoesOn list next

-- to a line that asks a seat it says nothing
abbrev pub WriterSaid : Bool → Basis → ℕ → Result Command LineFault → List Entry → List ℕ → List Entry → Type 0
WriterSaid true opening number read list text next = (text ≡ []) × (next ≡ list)
WriterSaid false opening number read list text next = Replied opening number read list [] text next

abbrev pub WriterLine : Basis → ReadLine → List Entry → List ℕ → List Entry → Type 0
WriterLine opening line list text next = WriterSaid (is_asked (read_seen line.read)) opening line.number (read_seen line.read) list text next

-- what is said to a first line, and to the others
pub record FirstText (texts : List (List ℕ)) (First : List ℕ → List Entry → Type 0) (Rest : List Entry → List (List ℕ) → Type 0) : Type 0 where
  pub text : List ℕ
  pub next : List Entry
  pub others : List (List ℕ)
  pub all : texts ≡ text ∷ others
  pub first : First text next
  pub rest : Rest next others

-- what the writer says to lines, one text for each, and the entries after them
abbrev pub WriterSays : Basis → List Entry → List ReadLine → List (List ℕ) → List Entry → Type 0
WriterSays opening list [] texts last = (texts ≡ []) × (last ≡ list)
WriterSays opening list (line ∷ lines) texts last =
    FirstText texts (λ text next. WriterLine opening line list text next) (λ next others. WriterSays opening next lines others last)
