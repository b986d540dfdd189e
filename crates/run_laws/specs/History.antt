-- What a session said, in the terms of its reader. There is one list of updates and batches that were accepted, in the
-- order of their lines. Each line is answered on the state that the first so many of them leave, and says how many.
use Rattle.std.specs.Prelude.{◌≡◌, ◌⊎◌, ℕ, suc, ◌+◌, ◌%◌, ◌≤◌, List, [], ◌∷◌, ◌++◌, length, take, slice_get, Bool, true, false, Option, Some, None, Result, Ok, Err}
use Rattle.dnr_base.specs.Faults.{Count}
use Rattle.dnr_base.specs.declared.request.Request.{Request}
use Rattle.rule_spec.specs.State.{State}
use Rattle.update_spec.specs.declared.refusal.Refusal.{Refusal}
use Rattle.update_spec.specs.Entries.{Entry, one, batch as together, judge, replay}
use Rattle.line_spec.specs.declared.command_path.CommandPath.TheVariants.{Cmd}
use Rattle.line_spec.specs.declared.line_fault.LineFault.{LineFault}
use Rattle.line_spec.specs.declared.line_fault.LineFault.TheVariants.{BadCommand}
use Rattle.line_spec.specs.Line.{Command, blank, sync, request, explain, update, batch, command_of}
use Rattle.line_spec.specs.Stops.{StopsInLine}
use Rattle.session_spec.specs.Answers.{Setting, known_with, said_refused, Explains, AnswersBy, HostRisesBy}
use Rattle.session_spec.specs.Rounds.{asks}
use Rattle.session_spec.specs.Said.{Answer, Said, nothing, accepted, synced, refused, refused_in_batch, bad, stopped, answered, lines_text, numbers_by, NeverFall, count_failed, count_stopped}

-- ---- what was accepted

-- the update or the batch that a line asks for, where it was accepted
abbrev pub entry_in : Result Command LineFault → List Entry
entry_in (Ok blank) = []
entry_in (Ok sync) = []
entry_in (Ok (request r)) = []
entry_in (Ok (explain r)) = []
entry_in (Ok (update new)) = one new ∷ []
entry_in (Ok (batch all)) = together all ∷ []
entry_in (Err fault) = []

abbrev pub if_accepted : Said → List Entry → List Entry
if_accepted nothing entries = []
if_accepted (accepted count) entries = entries
if_accepted (synced count) entries = []
if_accepted (refused why) entries = []
if_accepted (refused_in_batch place why) entries = []
if_accepted (bad why) entries = []
if_accepted (stopped why) entries = []
if_accepted (answered seat number answer) entries = []

-- all that was accepted of lines, of which the first has this number, by what they say
abbrev pub accepted_from : Bool → ℕ → List (List ℕ) → List Said → List Entry
accepted_from updates number [] said = []
accepted_from updates number (line ∷ lines) [] = []
accepted_from updates number (line ∷ lines) (told ∷ said) =
    if_accepted told (entry_in (known_with updates (command_of number line))) ++ accepted_from updates (number + 1) lines said

-- ---- a line and its place

-- the lines of rounds, one after another
abbrev pub lines_in : List (List (List ℕ)) → List (List ℕ)
lines_in [] = []
lines_in (round ∷ rounds) = round ++ lines_in rounds

-- a line of a session: the rounds before its own, the lines before it and behind it in its round, and the rounds after that
pub record Place : Type 0 where
  pub earlier : List (List (List ℕ))
  pub before : List (List ℕ)
  pub line : List ℕ
  pub behind : List (List ℕ)
  pub later : List (List (List ℕ))

abbrev pub round_at : Place → List (List ℕ)
round_at at = at.before ++ at.line ∷ at.behind

abbrev pub rounds_around : Place → List (List (List ℕ))
rounds_around at = at.earlier ++ round_at at ∷ at.later

-- all lines before it
abbrev pub lines_before : Place → List (List ℕ)
lines_before at = lines_in at.earlier ++ at.before

-- and with it
abbrev pub lines_up_to : Place → List (List ℕ)
lines_up_to at = lines_before at ++ at.line ∷ []

-- lines are counted from 1
abbrev pub number_at : Place → ℕ
number_at at = length (lines_before at) + 1

-- what the line asks for
abbrev pub command_at : Setting → Place → Result Command LineFault
command_at setting at = known_with setting.updates (command_of (number_at at) at.line)

-- how many of these lines ask for an answer to a request, where the first has this number
abbrev pub asked_in : ℕ → List (List ℕ) → ℕ
asked_in number [] = 0
asked_in number (line ∷ lines) = asks (command_of number line) + asked_in (number + 1) lines

-- the seats take turns in each round
abbrev pub seat_at : Setting → Place → ℕ
seat_at setting at = asked_in (length (lines_in at.earlier) + 1) at.before % setting.workers

-- ---- what was said

-- what a session rests on, the state before its first line, its rounds, and what their lines say; and the counts of faults
-- of its hosts
pub record Transcript : Type 0 where
  pub hosts : List Count
  pub setting : Setting
  pub first : State
  pub rounds : List (List (List ℕ))
  pub said : List Said

-- at this place of its rounds the line says so
pub record SaysAt (t : Transcript) (at : Place) (told : Said) : Type 0 where
  pub among : t.rounds ≡ rounds_around at
  pub says : slice_get t.said (length (lines_before at)) ≡ Some told

-- what was accepted of its first lines, which are these
abbrev pub accepted_in : Transcript → List (List ℕ) → List Entry
accepted_in t lines = accepted_from t.setting.updates 1 lines t.said

-- all that was accepted
abbrev pub all_accepted : Transcript → List Entry
all_accepted t = accepted_in t (lines_in t.rounds)

-- the state that the first so many leave
abbrev pub state_after : Transcript → ℕ → State
state_after t count = replay t.first (take count (all_accepted t))

-- how many were accepted before this line
abbrev pub count_before : Transcript → Place → ℕ
count_before t at = length (accepted_in t (lines_before at))

-- in the rounds before its own
abbrev pub count_in_earlier : Transcript → Place → ℕ
count_in_earlier t at = length (accepted_in t (lines_in at.earlier))

-- once its round has ended
abbrev pub count_when_ended : Transcript → Place → ℕ
count_when_ended t at = length (accepted_in t (lines_in at.earlier ++ round_at at))

-- ---- one line

-- The answer of this number is that of the state after so many accepted updates and batches. All of the earlier rounds
-- are among them, and none of a later round.
pub record IsOfState (t : Transcript) (at : Place) (number : ℕ) (Fits : State → Type 0) : Type 0 where
  pub least : count_in_earlier t at ≤ number
  pub most : number ≤ count_when_ended t at
  pub fits : Fits (state_after t number)

-- the line is answered by the seat whose turn it is
pub record IsAnsweredAt (t : Transcript) (at : Place) (Fits : State → Answer → Type 0) (told : Said) : Type 0 where
  pub number : ℕ
  pub answer : Answer
  pub same : told ≡ answered (seat_at t.setting at) number answer
  pub of_state : IsOfState t at number (λ state. Fits state answer)

-- an update or a batch is judged on the state that all accepted ones before it leave
abbrev pub IsJudged : ℕ → Entry → Option (ℕ × Refusal) → Said → Type 0
IsJudged count entry None told = told ≡ accepted (count + 1)
IsJudged count entry (Some at) told = told ≡ said_refused entry at

abbrev pub judged_at : Transcript → Place → Entry → Option (ℕ × Refusal)
judged_at t at entry = judge (state_after t (count_before t at)) entry

-- what a line says that asks for an explanation; where requests are followed nothing is explained
abbrev pub TellsWhy : Bool → Transcript → Place → Request → Said → Type 0
TellsWhy true t at r told = told ≡ bad (BadCommand Cmd)
TellsWhy false t at r told = IsAnsweredAt t at (Explains t.setting.suffixes r) told

-- what a line says that asks for this
abbrev pub Tells : Transcript → Place → Result Command LineFault → Said → Type 0
Tells t at (Ok blank) told = told ≡ nothing
Tells t at (Ok sync) told = told ≡ synced (count_before t at)
Tells t at (Ok (request r)) told = IsAnsweredAt t at (AnswersBy t.setting.follows t.setting.suffixes r) told
Tells t at (Ok (explain r)) told = TellsWhy t.setting.follows t at r told
Tells t at (Ok (update new)) told = IsJudged (count_before t at) (one new) (judged_at t at (one new)) told
Tells t at (Ok (batch all)) told = IsJudged (count_before t at) (together all) (judged_at t at (together all)) told
Tells t at (Err fault) told = told ≡ bad fault

-- the host failed at a pattern of the line
pub record IsStopped (line : List ℕ) (told : Said) : Type 0 where
  pub fault : LineFault
  pub stops : StopsInLine line fault
  pub same : told ≡ stopped fault

-- ---- a session

-- What was written is what the transcript says, a line for a line. Each line says what it must by the one list of all that
-- was accepted, and the numbers of a seat never fall. The counts of faults of the hosts rose as often as lines say that a
-- host failed: the first reads lines, and each other is a seat's.
pub record IsTranscript (t : Transcript) (written : List ℕ) : Type 0 where
  pub whole : length t.said ≡ length (lines_in t.rounds)
  pub text : written ≡ lines_text 1 t.said
  pub lines : (at : Place) (told : Said) → SaysAt t at told → Tells t at (command_at t.setting at) told ⊎ IsStopped at.line told
  pub order : (seat : ℕ) → NeverFall (numbers_by seat t.said)
  pub finders : (seat : ℕ) → HostRisesBy (count_failed seat t.said) (slice_get t.hosts (suc seat))
  pub checker : HostRisesBy (count_stopped t.said) (slice_get t.hosts 0)

-- some transcript of these rounds was written
pub record IsHistory (hosts : List Count) (setting : Setting) (first : State) (rounds : List (List (List ℕ))) (written : List ℕ) : Type 0 where
  pub said : List Said
  pub told : IsTranscript (record { hosts = hosts; setting = setting; first = first; rounds = rounds; said = said }) written
