-- What a reader may take from one line of what a session wrote.
use Rattle.std.specs.Prelude.{◌≡◌, ◌⊎◌, ℕ, suc, ◌+◌, ◌<◌, ◌≤◌, List, [], ◌∷◌, ◌++◌, length, take, slice_get, true, Some, None, Ok}
use Rattle.dnr_base.specs.declared.request.Request.{Request}
use Rattle.rule_spec.specs.PatternRule.{NamesPattern}
use Rattle.rule_spec.specs.Scan.{scan}
use Rattle.rule_spec.specs.State.{State}
use Rattle.explain_spec.specs.Explanation.{explanation_of}
use Rattle.follow_spec.specs.Trace.{trace}
use Rattle.update_spec.specs.declared.refusal.Refusal.{Refusal}
use Rattle.update_spec.specs.Entries.{Entry}
use Rattle.line_spec.specs.Line.{request, explain}
use Rattle.session_spec.specs.Answers.{said_refused}
use Rattle.session_spec.specs.Out.{HasRisen}
use Rattle.session_spec.specs.Said.{Answer, decided, explained, failed, traced, failed_at, Said, accepted, answered, is_failed, said_line, lines_text}
use Rattle.run_laws.specs.History.{Place, lines_before, lines_up_to, number_at, command_at, seat_at, Transcript, SaysAt, accepted_in, count_before, judged_at, IsOfState, IsStopped}

-- behind what the lines before it print stands what this one does
pub record PrintsAt (t : Transcript) (written : List ℕ) (at : Place) (told : Said) : Type 0 where
  pub behind : List ℕ
  pub whole : written ≡ lines_text 1 (take (length (lines_before at)) t.said) ++ (said_line (number_at at) told ++ behind)

-- ---- requests

-- A verdict is that of the precedence scan, over all rules that are in force in this state, of the request that the line
-- asks about. An explanation is that of the scan of a request that is to be explained. A trace is that of a request that is
-- to be followed, and a fault at a hop is one of its hops.
abbrev pub IsAnswerOn : Transcript → Place → Answer → State → Type 0
IsAnswerOn t at (decided verdict) state = (r : Request) × (command_at t.setting at ≡ Ok (request r)) × (verdict ≡ scan t.setting.suffixes state r)
IsAnswerOn t at (explained explanation) state =
    (r : Request) × (command_at t.setting at ≡ Ok (explain r)) × (explanation ≡ explanation_of t.setting.suffixes state r)
IsAnswerOn t at (failed rule) state = NamesPattern state rule
IsAnswerOn t at (traced way) state = (r : Request) × (command_at t.setting at ≡ Ok (request r)) × (way ≡ trace t.setting.suffixes state r)
IsAnswerOn t at (failed_at hop rule) state =
    NamesPattern state rule
    × ((r : Request) × (command_at t.setting at ≡ Ok (request r)) × (hop < length (trace t.setting.suffixes state r).hops))

-- The answer is printed with this number, and is that on the state after exactly so many accepted updates and batches. All
-- are among them that its seat has answered by on an earlier line.
pub record IsAfterSoMany (t : Transcript) (written : List ℕ) (at : Place) (seat number : ℕ) (answer : Answer) : Type 0 where
  pub prints : PrintsAt t written at (answered seat number answer)
  pub turn : seat ≡ seat_at t.setting at
  pub seen : (other : Place) (older : ℕ) (reply : Answer) → SaysAt t other (answered seat older reply) → number_at other < number_at at
      → older ≤ number
  pub of_state : IsOfState t at number (λ state. IsAnswerOn t at answer state)

-- ---- updates and batches

-- nothing is at fault in it: it is accepted whole, with the count after it
pub record WasAccepted (t : Transcript) (at : Place) (entry : Entry) (told : Said) : Type 0 where
  pub judged : judged_at t at entry ≡ None
  pub same : told ≡ accepted (count_before t at + 1)
  pub adds : accepted_in t (lines_up_to at) ≡ accepted_in t (lines_before at) ++ entry ∷ []

-- it says the first cause for which it is refused, and nothing more is accepted, so the state behind it is the one before it
pub record WasRefused (t : Transcript) (at : Place) (entry : Entry) (told : Said) : Type 0 where
  pub cause : ℕ × Refusal
  pub judged : judged_at t at entry ≡ Some cause
  pub same : told ≡ said_refused entry cause
  pub stays : accepted_in t (lines_up_to at) ≡ accepted_in t (lines_before at)

-- the host failed at a pattern in it, and nothing more is accepted
pub record WasStopped (t : Transcript) (at : Place) (told : Said) : Type 0 where
  pub stopped : IsStopped at.line told
  pub stays : accepted_in t (lines_up_to at) ≡ accepted_in t (lines_before at)

-- one of these became of it, and the line prints so
pub record IsSettled (t : Transcript) (written : List ℕ) (at : Place) (entry : Entry) (told : Said) : Type 0 where
  pub prints : PrintsAt t written at told
  pub settled : WasAccepted t at entry told ⊎ WasRefused t at entry told ⊎ WasStopped t at told

-- ---- faults

-- a line says that a host failed only where the count of that host rose: the first host's for a line that can't be read,
-- and for a request that of the seat that answers
pub record FaultIsCounted (t : Transcript) (at : Place) (told : Said) : Type 0 where
  pub checker : IsStopped at.line told → HasRisen (slice_get t.hosts 0)
  pub finder : (seat number : ℕ) (answer : Answer) → is_failed answer ≡ true → told ≡ answered seat number answer
      → HasRisen (slice_get t.hosts (suc seat))
