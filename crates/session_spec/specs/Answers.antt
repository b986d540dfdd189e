-- What a session says to the lines of its script: a relation, in which a state is carried along. Updates are judged on
-- the state that the earlier lines leave. Requests are answered by seats, which may work beside the updates of their
-- round: each on some state that its round passes through.
use Rattle.std.specs.Prelude.{◌≡◌, ◌⊎◌, ℕ, suc, ◌+◌, ◌-◌, ◌%◌, ◌^◌, ◌≤◌, ◌<◌, min, List, [], ◌∷◌, ◌++◌, length, slice_get, Contains, Bool, true, false, Option, Some, None, Result, Ok, Err}
use Rattle.dnr_base.specs.Faults.{Count}
use Rattle.dnr_base.specs.declared.request.Request.{Request}
use Rattle.dnr_spec.specs.Suffixes.{SuffixRule}
use Rattle.rule_spec.specs.PatternRule.{NamesPattern}
use Rattle.rule_spec.specs.Scan.{scan}
use Rattle.rule_spec.specs.State.{State}
use Rattle.explain_spec.specs.Explanation.{explanation_of}
use Rattle.follow_spec.specs.Trace.{trace}
use Rattle.update_spec.specs.declared.refusal.Refusal.{Refusal}
use Rattle.update_spec.specs.Entries.{Entry, one, batch as together, judge, after}
use Rattle.line_spec.specs.declared.command_path.CommandPath.TheVariants.{Cmd}
use Rattle.line_spec.specs.declared.line_fault.LineFault.{LineFault}
use Rattle.line_spec.specs.declared.line_fault.LineFault.TheVariants.{BadCommand}
use Rattle.line_spec.specs.Line.{Command, blank, sync, request, explain, update, batch, command_of}
use Rattle.line_spec.specs.Stops.{StopsInLine}
use Rattle.session_spec.specs.Rounds.{asks}
use Rattle.session_spec.specs.Said.{Answer, decided, explained, failed, traced, failed_at, Said, nothing, accepted, synced, refused, refused_in_batch, bad, stopped, answered, lines_text, numbers_by, NeverFall, count_failed, count_stopped}

-- What the answers of a session rest on beside its state: the suffix list, how many seats answer requests, whether it
-- takes updates, and whether requests are followed.
pub record Setting : Type 0 where
  pub suffixes : List SuffixRule
  pub workers : ℕ
  pub updates : Bool
  pub follows : Bool

-- ---- what a line asks for

-- a session without updates knows requests alone
abbrev pub without_updates : Result Command LineFault → Result Command LineFault
without_updates (Ok blank) = Ok blank
without_updates (Ok (request r)) = Ok (request r)
without_updates (Ok (explain r)) = Ok (explain r)
without_updates (Ok sync) = Err (BadCommand Cmd)
without_updates (Ok (update new)) = Err (BadCommand Cmd)
without_updates (Ok (batch all)) = Err (BadCommand Cmd)
without_updates (Err fault) = Err fault

abbrev pub known_with : Bool → Result Command LineFault → Result Command LineFault
known_with true read = read
known_with false read = without_updates read

-- ---- updates

abbrev pub said_refused : Entry → ℕ × Refusal → Said
said_refused (one new) at = refused at.1
said_refused (together all) at = refused_in_batch at.0 at.1

-- what becomes of an update or a batch by this judgement: all of it is applied, or nothing
abbrev pub Applies : State → Entry → Option (ℕ × Refusal) → Said → State → Type 0
Applies now entry None said next = (said ≡ accepted (after now entry).count) × (next ≡ after now entry)
Applies now entry (Some at) said next = (said ≡ said_refused entry at) × (next ≡ now)

-- ---- requests

-- this is the answer to a request on this state
abbrev pub Decides : List SuffixRule → Request → State → Answer → Type 0
Decides suffixes r state (decided verdict) = verdict ≡ scan suffixes state r
Decides suffixes r state (explained explanation) = ⊥
Decides suffixes r state (failed rule) = NamesPattern state rule
Decides suffixes r state (traced t) = ⊥
Decides suffixes r state (failed_at hop rule) = ⊥

-- the same where it is to be explained
abbrev pub Explains : List SuffixRule → Request → State → Answer → Type 0
Explains suffixes r state (decided verdict) = ⊥
Explains suffixes r state (explained explanation) = explanation ≡ explanation_of suffixes state r
Explains suffixes r state (failed rule) = NamesPattern state rule
Explains suffixes r state (traced t) = ⊥
Explains suffixes r state (failed_at hop rule) = ⊥

-- the same where it is to be followed; the host may fail at a hop of its trace
abbrev pub Follows : List SuffixRule → Request → State → Answer → Type 0
Follows suffixes r state (decided verdict) = ⊥
Follows suffixes r state (explained explanation) = ⊥
Follows suffixes r state (failed rule) = ⊥
Follows suffixes r state (traced t) = t ≡ trace suffixes state r
Follows suffixes r state (failed_at hop rule) = NamesPattern state rule × (hop < length (trace suffixes state r).hops)

-- what a request is answered, where requests are followed or not
abbrev pub AnswersBy : Bool → List SuffixRule → Request → State → Answer → Type 0
AnswersBy true = Follows
AnswersBy false = Decides

-- the seat answers on one of these states, and says how many updates were accepted before it
pub record IsAnswered (states : List State) (seat : ℕ) (Fits : State → Answer → Type 0) (said : Said) : Type 0 where
  pub state : State
  pub answer : Answer
  pub passed : Contains states state
  pub fits : Fits state answer
  pub same : said ≡ answered seat state.count answer

-- what a line says that asks for an explanation; where requests are followed nothing is explained
abbrev pub RepliesWhy : Bool → List SuffixRule → List State → ℕ → Request → Said → Type 0
RepliesWhy true suffixes states seat r said = said ≡ bad (BadCommand Cmd)
RepliesWhy false suffixes states seat r said = IsAnswered states seat (Explains suffixes r) said

-- ---- a line

-- What a line says that asks for this, and the state after it. `now` is the state that the earlier lines leave, and
-- `states` are those that its round passes through.
abbrev pub Replies : Setting → List State → State → ℕ → Result Command LineFault → Said → State → Type 0
Replies setting states now seat (Ok blank) said next = (said ≡ nothing) × (next ≡ now)
Replies setting states now seat (Ok sync) said next = (said ≡ synced now.count) × (next ≡ now)
Replies setting states now seat (Ok (request r)) said next = IsAnswered states seat (AnswersBy setting.follows setting.suffixes r) said × (next ≡ now)
Replies setting states now seat (Ok (explain r)) said next = RepliesWhy setting.follows setting.suffixes states seat r said × (next ≡ now)
Replies setting states now seat (Ok (update new)) said next = Applies now (one new) (judge now (one new)) said next
Replies setting states now seat (Ok (batch all)) said next = Applies now (together all) (judge now (together all)) said next
Replies setting states now seat (Err fault) said next = (said ≡ bad fault) × (next ≡ now)

-- the host failed at a pattern of the line, of which nothing is refused that is tested before that
pub record Stops (line : List ℕ) (now : State) (said : Said) (next : State) : Type 0 where
  pub fault : LineFault
  pub stops : StopsInLine line fault
  pub same : said ≡ stopped fault
  pub stays : next ≡ now

-- what the line of this number says, and the state after it
abbrev pub Says : Setting → List State → State → ℕ → ℕ → List ℕ → Said → State → Type 0
Says setting states now number seat line said next =
    Replies setting states now seat (known_with setting.updates (command_of number line)) said next
    ⊎ Stops line now said next

-- ---- a round

-- what a first line says and what the others say; a round passes through the state before each line and the last one
pub record FirstAndRest (now : State) (said : List Said) (states : List State) (First : Said → State → Type 0) (Rest : State → List Said → List State → Type 0) : Type 0 where
  pub told : Said
  pub next : State
  pub others : List Said
  pub later : List State
  pub all : said ≡ told ∷ others
  pub passes : states ≡ now ∷ later
  pub first : First told next
  pub rest : Rest next others later

-- What lines of a round say that passes through `states`, and the states that they pass through themselves. The first
-- has this number, and before it so many of the round asked for answers: the seats take turns.
abbrev pub LinesSay : Setting → List State → State → ℕ → ℕ → List (List ℕ) → List Said → List State → State → Type 0
LinesSay setting states now number asked [] said through last = (said ≡ []) × (through ≡ now ∷ []) × (last ≡ now)
LinesSay setting states now number asked (line ∷ lines) said through last =
    FirstAndRest now said through (λ told next. Says setting states now number (asked % setting.workers) line told next)
    (λ next others later. LinesSay setting states next (number + 1) (asked + asks (command_of number line)) lines others later last)

-- what a round says, whose first line has this number
pub record RoundSays (setting : Setting) (now : State) (number : ℕ) (lines : List (List ℕ)) (said : List Said) (last : State) : Type 0 where
  pub states : List State
  pub says : LinesSay setting states now number 0 lines said states last

-- ---- rounds

-- what a first round says and what the others say
pub record RoundAndRest (said : List Said) (Round : List Said → State → Type 0) (Rest : State → List Said → Type 0) : Type 0 where
  pub told : List Said
  pub next : State
  pub others : List Said
  pub all : said ≡ told ++ others
  pub first : Round told next
  pub rest : Rest next others

-- what rounds say one after another, the first line of which has this number
abbrev pub RoundsSay : Setting → State → ℕ → List (List (List ℕ)) → List Said → State → Type 0
RoundsSay setting now number [] said last = (said ≡ []) × (last ≡ now)
RoundsSay setting now number (round ∷ rounds) said last =
    RoundAndRest said (λ told next. RoundSays setting now number round told next)
    (λ next others. RoundsSay setting next (number + length round) rounds others last)

-- ---- what is written

-- a count of faults rose so often, as far as counts go
abbrev pub RisesBy : ℕ → Count → Type 0
RisesBy times count = min (count.before + times) (2 ^ 64 - 1) ≤ count.now

abbrev pub HostRisesBy : ℕ → Option Count → Type 0
HostRisesBy times None = times ≡ 0
HostRisesBy times (Some count) = RisesBy times count

-- These rounds were served from this state on, and their lines are what was written. The numbers of a seat never fall.
-- Each `fault` is a rise of the count of its seat's host, and each line that is refused as the host failed is one of the
-- first host's.
pub record Serves (hosts : List Count) (setting : Setting) (first : State) (rounds : List (List (List ℕ))) (written : List ℕ) : Type 0 where
  pub said : List Said
  pub last : State
  pub says : RoundsSay setting first 1 rounds said last
  pub order : (seat : ℕ) → NeverFall (numbers_by seat said)
  pub text : written ≡ lines_text 1 said
  pub finders : (seat : ℕ) → HostRisesBy (count_failed seat said) (slice_get hosts (suc seat))
  pub checker : HostRisesBy (count_stopped said) (slice_get hosts 0)
