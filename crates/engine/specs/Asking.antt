-- What an engine answers to a line: what a session may say that takes updates and has one seat.
use Rattle.std.specs.Prelude.{◌≡◌, ℕ, ◌<◌, List, [], true, false, length, Option, Some, None}
use Rattle.dnr_spec.specs.Suffixes.{SuffixRule}
use Rattle.rule_spec.specs.State.{State}
use Rattle.generation.specs.Basis.{Basis}
use Rattle.session_spec.specs.Answers.{Setting}
use Rattle.session_laws.specs.Turns.{LineTold, FaultsRise, NoneFell}
use Rattle.engine.specs.Held.{Held}
use Rattle.engine.specs.declared.refusal.AskRefusal.{AskRefusal}
use Rattle.engine.specs.declared.refusal.AskRefusal.TheVariants.{Room, NoMemory}

-- a session that takes updates and follows no requests, with so many seats
abbrev pub setting : List SuffixRule → ℕ → Setting
setting suffixes workers = record { suffixes = suffixes; workers = workers; updates = true; follows = false }

-- the state after a line: that of the next generation, if the line leaves another
abbrev pub state_left : State → Option Basis → State
state_left now None = now
state_left now (Some next) = next.state

abbrev pub left_by : Held → Option Basis → Held
left_by held next = record held { state = state_left held.state next }

-- What is said to the line of this number on the state before it, byte for byte, and the state after it. The suffix rules
-- stay, and a host is blamed only where its count rose.
pub record Answers (before : Held) (number : ℕ) (line answer : List ℕ) (after : Held) : Type 0 where
  pub told : LineTold (setting before.suffixes 1) before.state number 0 line [] answer after.state (FaultsRise before.faults after.faults)
  pub suffixes : after.suffixes ≡ before.suffixes

-- the state stays, and the suffix rules; hosts may have failed
pub record Stays (before after : Held) : Type 0 where
  pub suffixes : after.suffixes ≡ before.suffixes
  pub state : after.state ≡ before.state
  pub later : NoneFell before.faults after.faults

-- the line has an answer of so many bytes, which are more than there is room for
pub record TakesMore (held : Held) (number : ℕ) (line : List ℕ) (count room : ℕ) : Type 0 where
  pub answer : List ℕ
  pub after : Held
  pub answers : Answers held number line answer after
  pub long : length answer ≡ count
  pub more : room < count

-- why the line is not answered, where there is room for so many bytes
abbrev pub AskFails : Held → ℕ → List ℕ → ℕ → AskRefusal → Type 0
AskFails held number line room (Room count) = TakesMore held number line count room
AskFails held number line room NoMemory = Unit {0}
