-- The lines of a script that a round was read from, and what a round is to them.
use Rattle.std.specs.Prelude.{◌≡◌, ◌⊎◌, ℕ, suc, ◌+◌, List, [], ◌∷◌, ◌++◌, true, false, Result, Ok, Err}
use Rattle.dnr_spec.specs.Suffixes.{SuffixRule}
use Rattle.generation.specs.Basis.{Basis}
use Rattle.rule_spec.specs.State.{State}
use Rattle.update_spec.specs.Entries.{Entry, replay}
use Rattle.line_spec.specs.Line.{Command, command_of}
use Rattle.line_spec.specs.Stops.{StopsInLine}
use Rattle.line_spec.specs.declared.line_fault.LineFault.{LineFault}
use Rattle.session_laws.specs.Turns.{RiseBy}
use Rattle.session_spec.specs.Answers.{Setting, RoundSays}
use Rattle.session_spec.specs.Rounds.{asks}
use Rattle.session_spec.specs.Said.{Said, lines_text, numbers_by, NeverFallFrom, count_failed, count_stopped}
use Rattle.session_rounds.specs.Lines.{read_seen}
use Rattle.session_rounds.specs.Rounds.{RoundAnswered}
use Rattle.session_rounds.specs.declared.read_line.ReadLine.{ReadLine}

-- a line reads as this, or the host failed at one of its patterns, which was counted: then it asks no seat
abbrev pub OneRead : ℕ → List ℕ → Result Command LineFault → ℕ → (ℕ → Type 0) → Type 0
OneRead number line (Ok command) stops Rest = (command_of number line ≡ Ok command) × Rest stops
OneRead number line (Err fault) stops Rest =
    ((command_of number line ≡ Err fault) × Rest stops)
    ⊎ (StopsInLine line fault × (asks (command_of number line) ≡ 0) × ((left : ℕ) × (stops ≡ suc left) × Rest left))

-- lines from this number on were read, and the host failed at a pattern in so many of them
abbrev pub LinesRead : ℕ → List (List ℕ) → List ReadLine → ℕ → Type 0
LinesRead number [] [] stops = stops ≡ 0
LinesRead number [] (read ∷ reads) stops = ⊥
LinesRead number (line ∷ lines) [] stops = ⊥
LinesRead number (line ∷ lines) (read ∷ reads) stops =
    (read.number ≡ number) × OneRead number line (read_seen read.read) stops (λ left. LinesRead (number + 1) lines reads left)

-- a session that takes updates, with so many seats
abbrev pub serving : List SuffixRule → ℕ → Setting
serving suffixes seats = record { suffixes = suffixes; workers = seats; updates = true; follows = false }

-- These lines, from this number on, were served as a round between these states: what they say was appended to a text, the
-- numbers of a seat never fall and are none below the first state's, and the counts of the seats' hosts rose with the answers.
pub record RoundServed (setting : Setting) (first last : State) (number : ℕ) (lines : List (List ℕ)) (stops : ℕ) (before now : List ℕ) (was is : List ℕ) : Type 0 where
  pub said : List Said
  pub says : RoundSays setting first number lines said last
  pub text : now ≡ before ++ lines_text number said
  pub order : (seat : ℕ) → NeverFallFrom first.count (numbers_by seat said ++ last.count ∷ [])
  pub rises : RiseBy (λ seat. count_failed seat said) was is
  pub stopped : count_stopped said ≡ stops

-- A round that was answered over lines that were read is a round that was served, of the lines of the script.
abbrev pub AnsweredIsServed : Type 0
AnsweredIsServed =
    (opening : Basis) (seats : ℕ) (reads : List ReadLine) (floor end : List Entry) (before now was is : List ℕ) (number : ℕ) (lines : List (List ℕ)) (stops : ℕ)
    → opening.state.count ≡ 0 → RoundAnswered opening seats reads floor end before now was is → LinesRead number lines reads stops
    → RoundServed (serving opening.suffixes seats) (replay opening.state floor) (replay opening.state end) number lines stops before now was is
