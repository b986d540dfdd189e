-- What follows from what a session may say and how it may end.
use Rattle.std.specs.Prelude.{◌≡◌, ◌≤◌, ◌⊎◌, ℕ, List, Some}
use Rattle.dnr_base.specs.Faults.{Rose, Count}
use Rattle.dnr_spec.specs.declared.status.Status.{Status}
use Rattle.dnr_spec.specs.declared.status.Status.TheVariants.{Done, NoMemory}
use Rattle.load_spec.specs.Files.{Files}
use Rattle.rule_spec.specs.State.{State}
use Rattle.update_spec.specs.declared.refusal.Refusal.{Refusal}
use Rattle.update_spec.specs.Entries.{Entry, judge}
use Rattle.session_spec.specs.Answers.{Setting, Applies, RoundSays, Serves}
use Rattle.session_spec.specs.Out.{Outside, Session, HasLongFileOf, HoldsTooMuch, RefusesSession, in_rounds, EndsBy, hosts_needed}
use Rattle.session_spec.specs.Rounds.{Held, holds_nothing}
use Rattle.session_spec.specs.Said.{Said, numbers_by, NeverFall}
use Rattle.session_spec.specs.Words.{task_of}
use Rattle.session_laws.specs.Turns.{TurnsSay}

-- Lines that are answered in turn are a round, whatever the number of seats.
abbrev pub TurnsAreARound : Type 0
TurnsAreARound =
    (setting : Setting) (now : State) (number : ℕ) (lines : List (List ℕ)) (said : List Said) (through : List State) (last : State) (filled : Held)
    → TurnsSay setting now number holds_nothing lines said through last filled → RoundSays setting now number lines said last

-- An update or a batch that is refused leaves the state.
abbrev pub RefusalsChangeNothing : Type 0
RefusalsChangeNothing =
    (now : State) (entry : Entry) (at : ℕ × Refusal) (said : Said) (next : State) → judge now entry ≡ Some at
    → Applies now entry (judge now entry) said next → next ≡ now

-- The numbers of a seat never fall, over all rounds that were served.
abbrev pub NumbersNeverFall : Type 0
NumbersNeverFall =
    (hosts : List Count) (setting : Setting) (first : State) (rounds : List (List (List ℕ))) (written : List ℕ)
    → (serves : Serves hosts setting first rounds written) → (seat : ℕ) → NeverFall (numbers_by seat serves.said)

-- A session whose files are there, within the limits and not refused, and that meets no fault, is served to its end, unless
-- memory runs out.
abbrev pub SessionsComplete : Type 0
SessionsComplete =
    (files : Files) (outside : Outside) (session : Session) (name : List ℕ) (ended : Status) (written : List ℕ)
    → (Rose outside.shelf.before outside.shelf.now → ⊥) → (Rose outside.sink.before outside.sink.now → ⊥)
    → ((line : List ℕ) → RefusesSession files outside session line → ⊥) → (HasLongFileOf files session → ⊥)
    → ((script : List ℕ) → HoldsTooMuch files name script → ⊥)
    → EndsBy outside (in_rounds files outside session name) ended written → (ended ≡ Done) ⊎ (ended ≡ NoMemory)

-- Nine hosts are enough for any command: one reads files and lines, and each of eight workers at most has its own.
abbrev pub NineHostsAreEnough : Type 0
NineHostsAreEnough = (words : List (List ℕ)) → hosts_needed (task_of words) ≤ 9
