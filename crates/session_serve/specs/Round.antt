-- One line of a round, and the end of a round.
use Rattle.std.specs.Prelude.{◌≡◌, ℕ, ◌+◌, ◌%◌, List, [], ◌∷◌, length, Bool, true, false, Option, Result, Ok, Err}
use Rattle.std.specs.Io.KnownBytes.{Appends}
use Rattle.dnr_io.specs.Sink.{AppendsPart}
use Rattle.rule_spec.specs.State.{State}
use Rattle.line_spec.specs.declared.line_fault.LineFault.{LineFault}
use Rattle.line_spec.specs.Line.{Command, command_of}
use Rattle.session_spec.specs.Answers.{Setting}
use Rattle.session_spec.specs.Rounds.{Held, is_sync, asks, holds_nothing, with_line, ends_round}
use Rattle.session_laws.specs.Turns.{LineTold, FaultsRise}
use Rattle.session_serve.specs.Position.{Position}
use Rattle.session_serve.specs.declared.line_kind.LineKind.{LineKind}
use Rattle.session_serve.specs.declared.line_kind.LineKind.TheVariants.{Sync, Asks, Other}
use Rattle.session_serve.specs.declared.stop.ServeStop.{ServeStop}
use Rattle.session_serve.specs.declared.stop.ServeStop.TheVariants as stop

-- ---- kinds of lines

-- whether it ends its round, and how many answers to requests it asks for
abbrev pub syncs : LineKind → Bool
syncs Sync = true
syncs Asks = false
syncs Other = false

abbrev pub asks_of : LineKind → ℕ
asks_of Sync = 0
asks_of Asks = 1
asks_of Other = 0

abbrev pub IsKindOf : Result Command LineFault → LineKind → Type 0
IsKindOf read kind = (is_sync read ≡ syncs kind) × (asks read ≡ asks_of kind)

-- the same with one line more, by the length and the kind of the line
abbrev pub with_one : Held → ℕ → LineKind → Held
with_one held bytes kind = record { lines = held.lines + 1; bytes = held.bytes + bytes; asked = held.asked + asks_of kind }

-- ---- rounds

-- what is kept of a round: the text that answers its lines so far, and how much it holds
pub record Kept : Type 0 where
  pub text : List ℕ
  pub held : Held

abbrev pub nothing_kept : Kept
nothing_kept = record { text = []; held = holds_nothing }

-- a round that goes on is kept, and one that ends is written
abbrev pub Closes : Bool → Option (List ℕ) → Option (List ℕ) → List ℕ → Held → Kept → Type 0
Closes false before now text held kept = (now ≡ before) × (kept ≡ record { text = text; held = held })
Closes true before now text held kept = Appends before now text × (kept ≡ nothing_kept)

abbrev pub setting_with : Position → ℕ → Setting
setting_with position workers = record {
  suffixes = position.suffixes;
  workers = workers;
  updates = position.updates;
  follows = position.follows;
}

-- the line was answered, and its round goes on or was written
pub record LineServed (setting : Setting) (state next : State) (faults later : List ℕ) (number : ℕ) (line : List ℕ) (before now : Option (List ℕ)) (kept left : Kept) : Type 0 where
  pub grown : List ℕ
  pub answer : LineTold setting state number (kept.held.asked % setting.workers) line kept.text grown next (FaultsRise faults later)
  pub closes : Closes (ends_round kept.held number line) before now grown (with_line kept.held number line) left

-- the line was answered, and its round is not written whole
pub record RoundCut (setting : Setting) (state : State) (faults later : List ℕ) (number : ℕ) (line : List ℕ) (before now : Option (List ℕ)) (kept : Kept) : Type 0 where
  pub grown : List ℕ
  pub next : State
  pub answer : LineTold setting state number (kept.held.asked % setting.workers) line kept.text grown next (FaultsRise faults later)
  pub ends : ends_round kept.held number line ≡ true
  pub part : AppendsPart before now grown

-- a line is not served: the sink failed, or memory ran out and nothing was written
abbrev pub StopsAtLine : Setting → State → List ℕ → List ℕ → ℕ → List ℕ → Option (List ℕ) → Option (List ℕ) → Kept → ServeStop → Type 0
StopsAtLine setting state faults later number line before now kept stop.ReadFault = ⊥
StopsAtLine setting state faults later number line before now kept stop.WriteFault = RoundCut setting state faults later number line before now kept
StopsAtLine setting state faults later number line before now kept stop.TooLong = ⊥
StopsAtLine setting state faults later number line before now kept stop.NoMemory = now ≡ before
