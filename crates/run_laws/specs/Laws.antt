-- What follows from what a run may do, for whoever reads its output.
use Rattle.std.specs.Prelude.{◌≡◌, ◌≤◌, ◌⊎◌, ℕ, List, [], ◌∷◌, length, codes, true, false, Some}
use Rattle.dnr_base.specs.declared.request.Request.{Request}
use Rattle.dnr_base.specs.Faults.{Rose, Count}
use Rattle.dnr_spec.specs.declared.status.Status.{Status}
use Rattle.dnr_spec.specs.declared.status.Status.TheVariants.{Done, Refused, NoMemory}
use Rattle.dnr_spec.specs.Lines.{is_within_limits}
use Rattle.json_spec.specs.RulesFile.{max_file}
use Rattle.list_spec.specs.LineKind.{lines_of}
use Rattle.compile_spec.specs.Compiled.{compiled}
use Rattle.compile_spec.specs.Installed.{list_extension}
use Rattle.compile_laws.specs.Origins.{HasViews}
use Rattle.line_spec.specs.Line.{command_of}
use Rattle.load_spec.specs.Files.{Files}
use Rattle.rule_spec.specs.State.{State}
use Rattle.update_spec.specs.Entries.{Entry}
use Rattle.session_spec.specs.Answers.{Setting, Serves}
use Rattle.session_spec.specs.Loading.{Loaded}
use Rattle.session_spec.specs.Out.{Outside, HostRose, Session, of_words, Opens, Out, setting_of}
use Rattle.session_spec.specs.Said.{Answer, Said, answered}
use Rattle.session_spec.specs.Words.{list, Serving, Task, serve_script, task_of}
use Rattle.run_laws.specs.History.{entry_in, Place, command_at, Transcript, SaysAt, IsTranscript, IsHistory}
use Rattle.run_laws.specs.Printed.{IsAfterSoMany, IsSettled, FaultIsCounted}
use Rattle.run_laws.specs.Finished.{GoesOn, EndsWith, StandsWritten, CanBeFinished}
use Rattle.run_laws.specs.InTurn.{NoneFell, text_in_turn, MayAnswerInTurn}
use Rattle.run_laws.specs.Listed.{asked_about, BlocksAsSaid, BlocksAsListed}
use Rattle.run_laws.specs.Ready.{IsReady}
use Rattle.run_laws.specs.Runs.{RunsInTurn}
use Rattle.run_laws.specs.Wrote.{IsSession, WroteSo, Wrote}

-- ---- commands

-- A command of which all that it reads is there, within the limits and in its form, ends with Done, unless memory runs out,
-- where neither the shelf nor the sink failed, nor the host that reads files and lines.
abbrev pub CommandsComplete : Type 0
CommandsComplete =
    (words : List (List ℕ)) (files : Files) (outside : Outside) (task : Task) (ended : Status) (written : List ℕ) → task_of words ≡ Some task
    → (Rose outside.shelf.before outside.shelf.now → ⊥) → (Rose outside.sink.before outside.sink.now → ⊥) → (HostRose outside 0 → ⊥)
    → IsReady files task → Out words files outside ended written → (ended ≡ Done) ⊎ (ended ≡ NoMemory)

-- ---- a session as a history

-- Nothing is counted before the first line of a script.
abbrev pub SessionsBeginAtZero : Type 0
SessionsBeginAtZero = (files : Files) (session : Session) (loaded : Loaded) (first : State) → Opens files session loaded first → first.count ≡ 0

-- Rounds that were served are a history, whatever the status was: each line says what it must by one list of all that was
-- accepted.
abbrev pub ServedRoundsAreAHistory : Type 0
ServedRoundsAreAHistory =
    (hosts : List Count) (setting : Setting) (first : State) (rounds : List (List (List ℕ))) (written : List ℕ)
    → first.count ≡ 0 → Serves hosts setting first rounds written → IsHistory hosts setting first rounds written

-- Whatever the status, what a session wrote is such a history: with Done of its whole script.
abbrev pub SessionsAreHistories : Type 0
SessionsAreHistories =
    (words : List (List ℕ)) (files : Files) (outside : Outside) (ended : Status) (written : List ℕ) (session : Session) (name : List ℕ)
    → IsSession (task_of words) session name → Out words files outside ended written → Wrote files outside session name ended written

-- ---- what may be written, and what stands written

-- Rounds may be served in turn: each line answered on the state that the earlier ones leave, whatever the number of seats.
abbrev pub RoundsInTurnAreServed : Type 0
RoundsInTurnAreServed =
    (hosts : List Count) (setting : Setting) (first : State) (rounds : List (List (List ℕ))) → NoneFell hosts
    → Serves hosts setting first rounds (text_in_turn setting first rounds)

-- So once all before a script was read and installed, there is something that may be written of it: with Done, or with
-- FileTooLong where the script is too long.
abbrev pub SessionsMayAnswerInTurn : Type 0
SessionsMayAnswerInTurn =
    (words : List (List ℕ)) (files : Files) (outside : Outside) (session : Session) (name : List ℕ) (loaded : Loaded) (first : State) (script : List ℕ)
    → IsSession (task_of words) session name → NoneFell outside.hosts → Opens files session loaded first → files name ≡ Some script
    → MayAnswerInTurn words files outside (setting_of session loaded.suffixes) first script

-- However rounds were served, with faults or without, any rounds may be served behind them.
abbrev pub ServedRoundsGoOn : Type 0
ServedRoundsGoOn =
    (hosts : List Count) (setting : Setting) (first : State) (rounds more : List (List (List ℕ))) (written : List ℕ)
    → Serves hosts setting first rounds written → GoesOn hosts setting first rounds more written

-- So whatever the status, what a session wrote is nothing, a beginning of the line that says what is refused, or a beginning of
-- what it may write of its whole script.
abbrev pub SessionsCanBeFinished : Type 0
SessionsCanBeFinished =
    (words : List (List ℕ)) (files : Files) (outside : Outside) (ended : Status) (written : List ℕ) (session : Session) (name : List ℕ)
    → IsSession (task_of words) session name → Out words files outside ended written
    → (written ≡ []) ⊎ EndsWith words files outside Refused written ⊎ CanBeFinished words files outside name written

-- The same of every command: nothing stands written, or a beginning of what may be written whole.
abbrev pub WhatStandsIsABeginning : Type 0
WhatStandsIsABeginning =
    (words : List (List ℕ)) (files : Files) (outside : Outside) (ended : Status) (written : List ℕ)
    → Out words files outside ended written → StandsWritten words files outside written

-- What the definitions compute of a whole run of `match` or `follow` is an example of what may be written; where the rules are
-- refused it is the line that says why.
abbrev pub RunsAreInTurn : Type 0
RunsAreInTurn =
    (rules script : List ℕ) → length rules ≤ max_file → is_within_limits script ≡ true
    → RunsInTurn (codes "match") false rules script × RunsInTurn (codes "follow") true rules script

-- ---- one line

-- A verdict that a session wrote is that of the precedence scan over all rules that exactly as many accepted updates and
-- batches leave as the verdict prints: the first so many of one list. Among them are all of the earlier rounds, and all that
-- its seat had seen. So is an explanation, and so is each hop of a trace.
abbrev pub VerdictsAreScans : Type 0
VerdictsAreScans =
    (t : Transcript) (written : List ℕ) → IsTranscript t written → (at : Place) (seat number : ℕ) (answer : Answer)
    → SaysAt t at (answered seat number answer) → IsAfterSoMany t written at seat number answer

-- An update or a batch that is read is refused exactly where the definition has a cause, judged on what all accepted ones
-- before it leave. It names the first such cause and changes nothing. Only where the host failed at a pattern in it may it be
-- refused for that instead; that changes nothing too.
abbrev pub RefusalsNameTheirCause : Type 0
RefusalsNameTheirCause =
    (t : Transcript) (written : List ℕ) → IsTranscript t written → (at : Place) (entry : Entry) (told : Said)
    → SaysAt t at told → entry_in (command_at t.setting at) ≡ entry ∷ [] → IsSettled t written at entry told

-- Where no count of faults rose, no line says that a host failed: each request has its verdict, and each line that can be
-- read is read.
abbrev pub FaultsAreCounted : Type 0
FaultsAreCounted = (t : Transcript) (written : List ℕ) → IsTranscript t written → (at : Place) (told : Said) → SaysAt t at told → FaultIsCounted t at told

-- ---- lists

-- A request that a line asks about has the URLs of views, as have the frames that it is made in.
abbrev pub RequestsHaveViews : Type 0
RequestsHaveViews = (number : ℕ) (line : List ℕ) (r : Request) → asked_about (command_of number line) ≡ Some r → HasViews r

-- Of every transcript: where one filter list is all that is installed at its beginning, it blocks exactly what the supported
-- lines of the list say.
abbrev pub ListsBlockWhatTheySay : Type 0
ListsBlockWhatTheySay =
    (t : Transcript) (written : List ℕ) → IsTranscript t written → (name bytes : List ℕ)
    → t.first.extensions ≡ list_extension name (compiled (lines_of bytes)) ∷ [] → BlocksAsSaid bytes t

-- So does a session of `serve` in which one filter list is all that is installed, whatever its status: what it wrote is a
-- history that blocks so.
abbrev pub ServedListsBlockWhatTheySay : Type 0
ServedListsBlockWhatTheySay =
    (words : List (List ℕ)) (files : Files) (outside : Outside) (ended : Status) (written : List ℕ) (serving : Serving) (name file : List ℕ)
    → task_of words ≡ Some (serve_script serving) → serving.installed ≡ list name file ∷ [] → Out words files outside ended written
    → WroteSo (BlocksAsListed files outside serving file) files outside (of_words serving) serving.script ended written
