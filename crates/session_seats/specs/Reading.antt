-- The lines of a round as they read, and one line more.
use Rattle.std.specs.Prelude.{◌≡◌, ◌⊎◌, ℕ, ◌+◌, List, [], ◌∷◌, ◌++◌, map, Bool, true, if◌then◌else◌, Result, Ok, Err}
use Rattle.line_spec.specs.Line.{Command, blank, sync, request, explain, update, batch, command_of}
use Rattle.line_spec.specs.Stops.{StopsInLine}
use Rattle.line_spec.specs.declared.line_fault.LineFault.{LineFault}
use Rattle.session_spec.specs.Answers.{RisesBy}
use Rattle.lines_ahead.specs.Cut.{CutSeen, IsPlainLine}
use Rattle.script_read.specs.declared.command.Command as code
use Rattle.script_read.specs.declared.command.Command.TheVariants as command
use Rattle.session_spec.specs.Rounds.{Held, holds_nothing, is_sync, asks}
use Rattle.session_rounds.specs.Lines.{read_seen, is_asking, IsLine}
use Rattle.session_rounds.specs.declared.read_line.ReadLine.{ReadLine}
use Rattle.session_seats.specs.declared.round_line.RoundLine.{RoundLine}
use Rattle.session_seats.specs.declared.round_line.RoundLine.TheVariants as round

-- ---- a line

-- The command that a plain line reads as, as a value of the program's. It is a request, if it is any; nothing stands for
-- the others.
abbrev pub command_read : Command → code.Command
command_read blank = command.Blank
command_read sync = command.Sync
command_read (request r) = command.Request r
command_read (explain r) = command.Explain r
command_read (update one) = command.Blank
command_read (batch all) = command.Blank

abbrev pub plain_read : Result Command LineFault → Result code.Command LineFault
plain_read (Ok asked) = Ok (command_read asked)
plain_read (Err fault) = Err fault

-- a line of a round as it reads, whether it was read or not
abbrev pub seen_line : RoundLine → ReadLine
seen_line (round.Read line) = line.value
seen_line (round.Plain line) = record { number = line.number; read = plain_read (command_of line.number line.bytes) }

abbrev pub seen_lines : List RoundLine → List ReadLine
seen_lines lines = map seen_line lines

-- what was read keeps the limits of lines, and what was not is plain
abbrev pub IsTaken : RoundLine → Type 0
IsTaken (round.Read line) = IsLine line.value
IsTaken (round.Plain line) = IsPlainLine line

-- the plain line was read as this
pub record PlainReads (line : CutSeen) (read : ReadLine) : Type 0 where
  pub within : IsLine read
  pub same : seen_line (round.Plain line) ≡ read

-- the line is dealt to a seat: it asks one, or is plain, so that a seat has to read it
abbrev pub is_dealt : RoundLine → Bool
is_dealt (round.Read line) = is_asking line.value
is_dealt (round.Plain line) = true

-- its place, where it is
abbrev pub dealt_at : ℕ → RoundLine → List ℕ
dealt_at place line = if is_dealt line then place ∷ [] else []

-- ---- a round

-- the lines of a round so far, what they read as, the places of those that are dealt to seats, and how much it holds
pub record ReadRound : Type 0 where
  pub lines : List RoundLine
  pub reads : List ReadLine
  pub dealt : List ℕ
  pub held : Held

abbrev pub nothing_read : ReadRound
nothing_read = record { lines = []; reads = []; dealt = []; held = holds_nothing }

-- the places of those of the lines that are dealt, where the first stands at this one
abbrev pub dealt_from : ℕ → List RoundLine → List ℕ
dealt_from place [] = []
dealt_from place (line ∷ lines) = dealt_at place line ++ dealt_from (place + 1) lines

-- the round, where these places are dealt to seats
abbrev pub with_dealt : List ℕ → ReadRound → ReadRound
with_dealt places round = record { lines = round.lines; reads = round.reads; dealt = places; held = round.held }

-- the places of those of the lines that ask a seat, where the first stands at this one
abbrev pub asking_from : ℕ → List ReadLine → List ℕ
asking_from place [] = []
asking_from place (line ∷ lines) = (if is_asking line then place ∷ [] else []) ++ asking_from (place + 1) lines

-- how many of the lines ask a seat
abbrev pub asked_in : List ReadLine → ℕ
asked_in [] = 0
asked_in (line ∷ lines) = asks (read_seen line.read) + asked_in lines

-- the line reads as this, and the host failed so often at its patterns, which is once at most
abbrev pub LineReads : ℕ → List ℕ → Result Command LineFault → ℕ → Type 0
LineReads number line (Ok command) stops = (command_of number line ≡ Ok command) × (stops ≡ 0)
LineReads number line (Err fault) stops =
    ((command_of number line ≡ Err fault) × (stops ≡ 0))
    ⊎ (StopsInLine line fault × (asks (command_of number line) ≡ 0) × (stops ≡ 1))

-- the line of this number was read, and the count of the host's faults rose with what it reads as
pub record HasRead (number : ℕ) (line : List ℕ) (was is : ℕ) (read : ReadLine) : Type 0 where
  pub stops : ℕ
  pub numbered : read.number ≡ number
  pub reads : LineReads number line (read_seen read.read) stops
  pub rises : RisesBy stops (record { before = was; now = is })
  pub syncs : is_sync (command_of number line) ≡ is_sync (read_seen read.read)
  pub asks : asks (command_of number line) ≡ asks (read_seen read.read)

-- a line of so many bytes more
abbrev pub held_with : Held → ℕ → ReadLine → Held
held_with held bytes read = record {
  lines = held.lines + 1;
  bytes = held.bytes + bytes;
  asked = held.asked + asks (read_seen read.read);
}

-- the line may be taken in so
pub record HasTaken (number : ℕ) (line : List ℕ) (was is : ℕ) (taken : RoundLine) : Type 0 where
  pub has : HasRead number line was is (seen_line taken)
  pub within : IsTaken taken

-- the line was read so, and taken in
pub record ReadsLine (number : ℕ) (line : List ℕ) (was is : ℕ) (before now : List ReadLine) : Type 0 where
  pub read : ReadLine
  pub has : HasRead number line was is read
  pub appended : now ≡ before ++ read ∷ []
