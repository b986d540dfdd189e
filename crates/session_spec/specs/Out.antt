-- What a command may do: the statuses that it may end with, and the bytes that it may write on each, for its words,
-- what the files hold, and what came from outside.
use Rattle.std.specs.Prelude.{◌≡◌, ◌⊎◌, ℕ, ◌+◌, List, [], ◌∷◌, ◌++◌, length, codes, slice_get, take, Bool, true, false, Option, Some, None, Ok, Err}
use Rattle.dnr_spec.specs.declared.status.Status.{Status}
use Rattle.dnr_spec.specs.declared.status.Status.TheVariants as status
use Rattle.dnr_spec.specs.Lines.{lines_of, is_within_limits}
use Rattle.dnr_spec.specs.Suffixes.{SuffixRule}
use Rattle.dnr_base.specs.Faults.{Rose, Count, next_count}
use Rattle.rule_spec.specs.declared.rule_kind.RuleKind.{RuleKind}
use Rattle.rule_spec.specs.declared.rule_kind.RuleKind.TheVariants.{Static}
use Rattle.rule_spec.specs.Rule.{Rule}
use Rattle.rule_spec.specs.State.{State}
use Rattle.json_spec.specs.Written.{written as json_text}
use Rattle.list_spec.specs.LineKind as list
use Rattle.compile_spec.specs.Compiled.{CompiledRule, rules_in}
use Rattle.compile_spec.specs.Report.{report}
use Rattle.load_spec.specs.Files.{Files, HoldsRules, HoldsLongFile}
use Rattle.update_spec.specs.Update.{NewExtension}
use Rattle.update_spec.specs.Entries.{RefusedInstall, opening}
use Rattle.session_spec.specs.Refusals.{install_line, count_line, unsupported_lines}
use Rattle.session_spec.specs.Answers.{Setting, Serves}
use Rattle.session_spec.specs.Hiding.{IsHidden, HidesTooMuch}
use Rattle.session_spec.specs.Loading.{PrintsRefusedRules, HoldsList, PrintsRefusedList, Loaded, Loads, RefusesFile, HasLongFileIn}
use Rattle.session_spec.specs.Pruning.{IsPruned, RefusesPruning}
use Rattle.session_spec.specs.Rounds.{rounds_of, whole_rounds_of, short_lines, ended_lines}
use Rattle.session_spec.specs.Sample.{IsSampled}
use Rattle.session_spec.specs.Words.{Serving, Task, match_files, follow_files, check_file, compile_file, serve_script, make_sample, hide_page, prune_file, task_of}

-- What came from outside in a call: how often each thing had failed before it and after it, how often a file had been
-- started that is read from first to last, and what that file has left. The first pattern host reads files and lines, and
-- each other decides requests.
pub record Outside : Type 0 where
  pub shelf : Count
  pub started : Count
  pub sink : Count
  pub hosts : List Count
  pub left : List ℕ

abbrev pub HasRisen : Option Count → Type 0
HasRisen None = ⊥
HasRisen (Some count) = Rose count.before count.now

-- the count of the host at this place rose
abbrev pub HostRose : Outside → ℕ → Type 0
HostRose outside place = HasRisen (slice_get outside.hosts place)

-- ---- scripts

-- the file is a script of these bytes, and within the limits
pub record HoldsScript (files : Files) (name script : List ℕ) : Type 0 where
  pub held : files name ≡ Some script
  pub within : is_within_limits script ≡ true

-- the file is a script with a line that is too long, or with too many lines
pub record HoldsTooMuch (files : Files) (name script : List ℕ) : Type 0 where
  pub held : files name ≡ Some script
  pub beyond : is_within_limits script ≡ false

-- the file is a script that gave these bytes, and has others left
pub record HoldsGiven (files : Files) (name given left : List ℕ) : Type 0 where
  pub script : List ℕ
  pub held : files name ≡ Some script
  pub split : script ≡ given ++ left

-- ---- rules files

-- the rules were read and counted
pub record IsCounted (files : Files) (kind : RuleKind) (rules_name written : List ℕ) : Type 0 where
  pub rules : List Rule
  pub loaded : HoldsRules files kind rules_name rules
  pub output : written ≡ count_line (length rules)

-- ---- filter lists

-- each line that gives nothing, the count of the rules, and the rules as JSON
abbrev pub compiled_text : List ℕ → List CompiledRule → List ℕ
compiled_text bytes rules =
    unsupported_lines (report (list.lines_of bytes)) ++ count_line (length rules) ++ json_text (rules_in rules) ++ codes "\n"

-- the list was compiled
pub record IsCompiled (files : Files) (name output : List ℕ) : Type 0 where
  pub bytes : List ℕ
  pub rules : List CompiledRule
  pub held : HoldsList files name bytes rules
  pub same : output ≡ compiled_text bytes rules

-- ---- sessions

-- the extension `local` with the ruleset `rules`
abbrev pub local : List Rule → NewExtension
local rules = record {
  name = codes "local";
  sets = record { id = codes "rules"; enabled = true; rules = rules; origins = [] } ∷ [];
  access = None;
}

-- `match` and `follow` have no suffix list
abbrev pub loaded_with : List Rule → Loaded
loaded_with rules = record { suffixes = []; extensions = local rules ∷ [] }

-- A session answers a script. What is read before that is the rules file of `match` or of `follow`, which follows requests,
-- or what the words of `serve` name.
pub data Session : Type 0 where
  of_rules : Bool → List ℕ → Session
  of_words : Serving → Session

-- all that is read before the script was read
abbrev pub LoadsFor : Files → Session → Loaded → Type 0
LoadsFor files (of_rules follows name) loaded = (rules : List Rule) × HoldsRules files Static name rules × (loaded ≡ loaded_with rules)
LoadsFor files (of_words serving) loaded = Loads files serving loaded

-- `match` and `follow` have no other commands than requests
abbrev pub takes_updates : Session → Bool
takes_updates (of_rules follows name) = false
takes_updates (of_words serving) = true

abbrev pub follows_requests : Session → Bool
follows_requests (of_rules follows name) = follows
follows_requests (of_words serving) = false

abbrev pub workers_of : Session → ℕ
workers_of (of_rules follows name) = 1
workers_of (of_words serving) = serving.workers

abbrev pub setting_of : Session → List SuffixRule → Setting
setting_of session suffixes = record {
  suffixes = suffixes;
  workers = workers_of session;
  updates = takes_updates session;
  follows = follows_requests session;
}

-- all was read and installed, and the session begins in this state
pub record Opens (files : Files) (session : Session) (loaded : Loaded) (state : State) : Type 0 where
  pub read : LoadsFor files session loaded
  pub installed : opening loaded.extensions ≡ Ok state

-- all was read and installed, and of a script that is so these rounds were served
pub record IsServed (files : Files) (outside : Outside) (session : Session) (Script : List ℕ → Type 0) (rounds_in : List ℕ → List (List (List ℕ))) (written : List ℕ) : Type 0 where
  pub loaded : Loaded
  pub first : State
  pub opens : Opens files session loaded first
  pub script : List ℕ
  pub holds : Script script
  pub serves : Serves outside.hosts (setting_of session loaded.suffixes) first (rounds_in script) written

-- the script is within the limits, and all its rounds were served
abbrev pub ServesAll : Files → Outside → Session → List ℕ → List ℕ → Type 0
ServesAll files outside session name =
    IsServed files outside session (HoldsScript files name) (λ script. rounds_of (lines_of script))

-- the script is too long, and the rounds were served that are whole before what is too long
abbrev pub ServesShort : Files → Outside → Session → List ℕ → List ℕ → Type 0
ServesShort files outside session name =
    IsServed files outside session (HoldsTooMuch files name) (λ script. whole_rounds_of (short_lines script))

-- the rounds were served that are whole in what the script gave
abbrev pub ServesGiven : Files → Outside → Session → List ℕ → List ℕ → Type 0
ServesGiven files outside session name =
    IsServed files outside session (λ given. HoldsGiven files name given outside.left) (λ given. whole_rounds_of (ended_lines given))

-- Nothing was started, so what can't be read is a file that is read before the script, or the script can't be started.
abbrev pub HasNotStarted : Outside → Type 0
HasNotStarted outside = outside.started.now ≡ outside.started.before

-- the script was started, once, and nothing else
abbrev pub HasStarted : Outside → Type 0
HasStarted outside = outside.started.now ≡ next_count outside.started.before

-- what is written where a file can't be read on: nothing before the script was started, and then its whole rounds
abbrev pub WritesUnread : Files → Outside → Session → List ℕ → List ℕ → Type 0
WritesUnread files outside session name written =
    (HasNotStarted outside × (written ≡ []))
    ⊎ (HasStarted outside × ServesGiven files outside session name written)

-- some first rounds were served of those that are whole, of a script that may be too long
pub record ServesSome (files : Files) (outside : Outside) (session : Session) (name written : List ℕ) : Type 0 where
  pub count : ℕ
  pub served : IsServed files outside session (λ script. files name ≡ Some script) (λ script. take count (whole_rounds_of (short_lines script))) written

-- all was read, and an extension is not installed
pub record IsNotInstalled (files : Files) (session : Session) (written : List ℕ) : Type 0 where
  pub loaded : Loaded
  pub read : LoadsFor files session loaded
  pub refused : RefusedInstall
  pub judged : opening loaded.extensions ≡ Err refused
  pub output : written ≡ install_line refused

-- a file is refused that is read before the script
abbrev pub RefusesFileOf : Files → Outside → Session → List ℕ → Type 0
RefusesFileOf files outside (of_rules follows name) written = PrintsRefusedRules files (HostRose outside 0) Static name written
RefusesFileOf files outside (of_words serving) written = RefusesFile files (HostRose outside 0) serving written

-- a file is too long that is read before the script
abbrev pub HasLongFileOf : Files → Session → Type 0
HasLongFileOf files (of_rules follows name) = HoldsLongFile files name
HasLongFileOf files (of_words serving) = HasLongFileIn files serving

-- a file is refused that is read before the script, or an extension is not installed
abbrev pub RefusesSession : Files → Outside → Session → List ℕ → Type 0
RefusesSession files outside session written = RefusesFileOf files outside session written ⊎ IsNotInstalled files session written

-- ---- what a command writes

-- What a command writes where it ends with Done, where it ends with Refused, where a file can't be read on, and where a
-- file is too long; and what it may have written at some moment, of which a failing sink has taken a beginning.
pub record Conduct : Type 1 where
  pub Done : List ℕ → Type 0
  pub Refused : List ℕ → Type 0
  pub Unread : List ℕ → Type 0
  pub TooLong : List ℕ → Type 0
  pub Meanwhile : List ℕ → Type 0

-- A command that writes one text when all is read. What is too long leaves nothing written.
abbrev pub at_once : (List ℕ → Type 0) → (List ℕ → Type 0) → Type 0 → Conduct
at_once Done Refused TooLong = record {
  Done = Done;
  Refused = Refused;
  Unread = λ written. written ≡ [];
  TooLong = λ written. TooLong × (written ≡ []);
  Meanwhile = λ written. Done written ⊎ Refused written;
}

-- a session writes round by round
abbrev pub in_rounds : Files → Outside → Session → List ℕ → Conduct
in_rounds files outside session script = record {
  Done = ServesAll files outside session script;
  Refused = RefusesSession files outside session;
  Unread = WritesUnread files outside session script;
  TooLong = λ written. (HasLongFileOf files session × (written ≡ [])) ⊎ ServesShort files outside session script written;
  Meanwhile = λ written. ServesAll files outside session script written ⊎ ServesSome files outside session script written ⊎ RefusesSession files outside session written;
}

abbrev pub conduct_of : Files → Outside → Task → Conduct
conduct_of files outside (match_files rules script) = in_rounds files outside (of_rules false rules) script
conduct_of files outside (follow_files rules script) = in_rounds files outside (of_rules true rules) script
conduct_of files outside (check_file kind name) =
    at_once (IsCounted files kind name) (PrintsRefusedRules files (HostRose outside 0) kind name) (HoldsLongFile files name)
conduct_of files outside (compile_file name) =
    at_once (IsCompiled files name) (PrintsRefusedList files (HostRose outside 0) name) (HoldsLongFile files name)
conduct_of files outside (serve_script serving) = in_rounds files outside (of_words serving) serving.script
conduct_of files outside (make_sample sample) = at_once (IsSampled sample) (λ written. ⊥) ⊥
conduct_of files outside (hide_page name host) = at_once (IsHidden files name host) (HidesTooMuch files name) (HoldsLongFile files name)
conduct_of files outside (prune_file name) =
    at_once (IsPruned files name) (RefusesPruning files (HostRose outside 0) name) (HoldsLongFile files name)

-- some first bytes of what may be written
pub record IsBeginning (May : List ℕ → Type 0) (written : List ℕ) : Type 0 where
  pub rest : List ℕ
  pub whole : May (written ++ rest)

-- ---- how it ends

-- What a status says of a command of this conduct: the event that the status comes from, and what was written.
abbrev pub EndsBy : Outside → Conduct → Status → List ℕ → Type 0
EndsBy outside conduct status.Done written = conduct.Done written
EndsBy outside conduct status.Refused written = conduct.Refused written
EndsBy outside conduct status.Usage written = ⊥
EndsBy outside conduct status.ReadFault written = Rose outside.shelf.before outside.shelf.now × conduct.Unread written
EndsBy outside conduct status.WriteFault written = Rose outside.sink.before outside.sink.now × IsBeginning conduct.Meanwhile written
EndsBy outside conduct status.NoMemory written = (written ≡ []) ⊎ IsBeginning conduct.Meanwhile written
EndsBy outside conduct status.FileTooLong written = conduct.TooLong written
EndsBy outside conduct status.DiskFault written = ⊥

-- words that say no command end with Usage alone, and write nothing
abbrev pub EndsFor : Files → Outside → Option Task → Status → List ℕ → Type 0
EndsFor files outside None ended written = (ended ≡ status.Usage) × (written ≡ [])
EndsFor files outside (Some task) ended written = EndsBy outside (conduct_of files outside task) ended written

-- This status and these bytes are allowed for these words, files and faults.
abbrev pub Out : List (List ℕ) → Files → Outside → Status → List ℕ → Type 0
Out words files outside ended written = EndsFor files outside (task_of words) ended written

-- one host reads files and lines, and each worker has one of its own
abbrev pub hosts_of_task : Task → ℕ
hosts_of_task (match_files rules script) = 2
hosts_of_task (follow_files rules script) = 2
hosts_of_task (check_file kind name) = 2
hosts_of_task (compile_file name) = 2
hosts_of_task (serve_script serving) = serving.workers + 1
hosts_of_task (make_sample sample) = 2
hosts_of_task (hide_page name host) = 2
hosts_of_task (prune_file name) = 2

abbrev pub hosts_needed : Option Task → ℕ
hosts_needed None = 2
hosts_needed (Some task) = hosts_of_task task
