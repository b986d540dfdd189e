-- What is written of a script, and how the serving of it ends.
use Rattle.std.specs.Prelude.{◌≡◌, ◌⊎◌, ℕ, List, [], ◌++◌, IfSome, take, Bool, true, false, Option, Result, Ok, Err}
use Rattle.std.specs.Io.KnownBytes.{Appends}
use Rattle.dnr_base.specs.Faults.{Count}
use Rattle.dnr_io.specs.declared.line_refusal.LineRefusal.{LineRefusal}
use Rattle.dnr_io.specs.declared.line_refusal.LineRefusal.TheVariants as refusal
use Rattle.dnr_spec.specs.Lines.{lines_of, is_within_limits}
use Rattle.rule_spec.specs.State.{State}
use Rattle.session_spec.specs.Answers.{Setting, Serves}
use Rattle.session_spec.specs.Rounds.{rounds_of, whole_rounds_of, short_lines, ended_lines}
use Rattle.session_serve.specs.declared.stop.ServeStop.{ServeStop}
use Rattle.session_serve.specs.declared.stop.ServeStop.TheVariants as stop

-- why a script is not read on
abbrev pub stop_of : LineRefusal → ServeStop
stop_of refusal.ReadFault = stop.ReadFault
stop_of refusal.LineTooLong = stop.TooLong
stop_of refusal.NoMemory = stop.NoMemory

-- these rounds were served, and written
pub record WritesRounds (before now : Option (List ℕ)) (hosts : List Count) (setting : Setting) (first : State) (rounds : List (List (List ℕ))) : Type 0 where
  pub written : List ℕ
  pub taken : Appends before now written
  pub serves : Serves hosts setting first rounds written

-- these rounds were served, and some first bytes of them were written
pub record WritesPart (before now : Option (List ℕ)) (hosts : List Count) (setting : Setting) (first : State) (rounds : List (List (List ℕ))) : Type 0 where
  pub sent : List ℕ
  pub rest : List ℕ
  pub taken : Appends before now sent
  pub serves : Serves hosts setting first rounds (sent ++ rest)

-- some first rounds of those that are whole, of a script that may be too long
abbrev pub some_rounds : ℕ → List ℕ → List (List (List ℕ))
some_rounds count script = take count (whole_rounds_of (short_lines script))

-- the rounds were served that are whole in what the script gave before a fault
pub record WritesGiven (before now : Option (List ℕ)) (hosts : List Count) (setting : Setting) (first : State) (script left : List ℕ) : Type 0 where
  pub given : List ℕ
  pub split : script ≡ given ++ left
  pub writes : WritesRounds before now hosts setting first (whole_rounds_of (ended_lines given))

-- how it ends, and what was written: all rounds, those before what is too long, or some first ones; `left` is what the
-- script has left, where that is told
abbrev pub EndsServing : Option (List ℕ) → Option (List ℕ) → List Count → Setting → State → List ℕ → Option (List ℕ) → Result (Unit {0}) ServeStop → Type 0
EndsServing before now hosts setting first script left (Ok done) =
    (is_within_limits script ≡ true) × WritesRounds before now hosts setting first (rounds_of (lines_of script))
EndsServing before now hosts setting first script left (Err stop.ReadFault) = IfSome left (λ rest. WritesGiven before now hosts setting first script rest)
EndsServing before now hosts setting first script left (Err stop.TooLong) =
    (is_within_limits script ≡ false) × WritesRounds before now hosts setting first (whole_rounds_of (short_lines script))
EndsServing before now hosts setting first script left (Err stop.WriteFault) =
    ((count : ℕ) × WritesPart before now hosts setting first (some_rounds count script))
    ⊎ ((is_within_limits script ≡ true) × WritesPart before now hosts setting first (rounds_of (lines_of script)))
EndsServing before now hosts setting first script left (Err stop.NoMemory) =
    (count : ℕ) × WritesRounds before now hosts setting first (some_rounds count script)
