-- The lines of a round, and what a seat answers to one of them.
use Rattle.std.specs.Prelude.{◌≡◌, ◌≢◌, ℕ, List, length, Bool, true, false, Result, Ok, Err}
use Rattle.dnr_spec.specs.Suffixes.{SuffixRule}
use Rattle.rule_spec.specs.State.{State}
use Rattle.generation.specs.Basis.{Basis}
use Rattle.update_spec.specs.Entries.{Entry, replay}
use Rattle.line_spec.specs.declared.line_fault.LineFault.{LineFault}
use Rattle.line_spec.specs.declared.line_fault.LineFault.TheVariants.{NoMemory}
use Rattle.line_spec.specs.Line as spec
use Rattle.line_spec.specs.Line.{blank, sync, request, explain, update, batch}
use Rattle.script_read.specs.Seen.{command_seen}
use Rattle.script_read.specs.declared.command.Command.{Command}
use Rattle.session_spec.specs.Answers.{Decides, Explains}
use Rattle.session_spec.specs.Said.{Answer, is_failed, answer_line}
use Rattle.session_rounds.specs.declared.read_line.ReadLine.{ReadLine}

-- what a line reads as, in the words of the definitions
abbrev pub read_seen : Result Command LineFault → Result spec.Command LineFault
read_seen (Ok command) = Ok (command_seen command)
read_seen (Err fault) = Err fault

-- it asks a seat
abbrev pub is_asked : Result spec.Command LineFault → Bool
is_asked (Ok blank) = false
is_asked (Ok sync) = false
is_asked (Ok (request r)) = true
is_asked (Ok (explain r)) = true
is_asked (Ok (update one)) = false
is_asked (Ok (batch all)) = false
is_asked (Err fault) = false

abbrev pub is_asking : ReadLine → Bool
is_asking line = is_asked (read_seen line.read)

-- what is read keeps the limits of lines, and is no want of memory
abbrev pub IsWithin : Result spec.Command LineFault → Type 0
IsWithin (Ok command) = spec.IsWithinLimits command
IsWithin (Err fault) = fault ≢ NoMemory

abbrev pub IsLine : ReadLine → Type 0
IsLine line = IsWithin (read_seen line.read)

-- this is an answer on this state to what is asked
abbrev pub Fits : List SuffixRule → Result spec.Command LineFault → State → Answer → Type 0
Fits suffixes (Ok blank) state answer = ⊥
Fits suffixes (Ok sync) state answer = ⊥
Fits suffixes (Ok (request r)) state answer = Decides suffixes r state answer
Fits suffixes (Ok (explain r)) state answer = Explains suffixes r state answer
Fits suffixes (Ok (update one)) state answer = ⊥
Fits suffixes (Ok (batch all)) state answer = ⊥
Fits suffixes (Err fault) state answer = ⊥

-- the text of an answer after these entries, and whether a host failed in it
pub record IsAnswer (opening : Basis) (number : ℕ) (read : Result spec.Command LineFault) (list : List Entry) (failed : Bool) (text : List ℕ) : Type 0 where
  pub answer : Answer
  pub fits : Fits opening.suffixes read (replay opening.state list) answer
  pub kind : is_failed answer ≡ failed
  pub same : text ≡ answer_line number (length list) answer
