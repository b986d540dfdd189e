-- A round from its parts to what is written of it.
use Rattle.std.specs.Prelude.{◌≡◌, ◌<◌, ◌≤◌, ℕ, List, [], length, get_or, true, Option}
use Rattle.std.specs.Io.KnownBytes.{Appends}
use Rattle.dnr_io.specs.Sink.{AppendsPart}
use Rattle.generation.specs.Basis.{Basis}
use Rattle.update_spec.specs.Entries.{Entry, replay}
use Rattle.session_serve.specs.Told.{AnswerTold}
use Rattle.session_serve.specs.declared.stop.ServeStop.{ServeStop}
use Rattle.session_serve.specs.declared.stop.ServeStop.TheVariants as stop
use Rattle.session_rounds.specs.Lines.{read_seen, is_asking, Fits}
use Rattle.session_rounds.specs.Rounds.{RoundAnswered}
use Rattle.session_rounds.specs.declared.read_line.ReadLine.{ReadLine}

-- each number lies between these
abbrev pub AreWithin : ℕ → ℕ → List ℕ → Type 0
AreWithin least most numbers = (place : ℕ) → place < length numbers → (least ≤ get_or numbers place 0) × (get_or numbers place 0 ≤ most)

-- an answer was appended to a line that asks a seat, after all these entries
abbrev pub AnsweredAnew : Basis → List Entry → ReadLine → List ℕ → List ℕ → ℕ → ℕ → Type 0
AnsweredAnew opening list line before now was is =
    is_asking line ≡ true → AnswerTold (Fits opening.suffixes (read_seen line.read)) (replay opening.state list) line.number before now was is

-- the round was answered, and its text written
pub record WritesRound (opening : Basis) (seats : ℕ) (reads : List ReadLine) (floor end : List Entry) (before now : Option (List ℕ)) (was is : List ℕ) : Type 0 where
  pub text : List ℕ
  pub answered : RoundAnswered opening seats reads floor end [] text was is
  pub written : Appends before now text

-- the round was answered, and its text written in part
pub record CutsRound (opening : Basis) (seats : ℕ) (reads : List ReadLine) (floor : List Entry) (before now : Option (List ℕ)) (was is : List ℕ) : Type 0 where
  pub text : List ℕ
  pub end : List Entry
  pub answered : RoundAnswered opening seats reads floor end [] text was is
  pub part : AppendsPart before now text

-- why a round is not written: the sink failed, or memory ran out and nothing was written
abbrev pub StopsRound : Basis → ℕ → List ReadLine → List Entry → Option (List ℕ) → Option (List ℕ) → List ℕ → List ℕ → ServeStop → Type 0
StopsRound opening seats reads floor before now was is stop.ReadFault = ⊥
StopsRound opening seats reads floor before now was is stop.WriteFault = CutsRound opening seats reads floor before now was is
StopsRound opening seats reads floor before now was is stop.TooLong = ⊥
StopsRound opening seats reads floor before now was is stop.NoMemory = now ≡ before
