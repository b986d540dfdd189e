-- What a session wrote, by the status with which it ended, in the terms of its reader.
use Rattle.std.specs.Prelude.{◌≡◌, ◌⊎◌, ℕ, List, [], take, true, false, Option, Some, None}
use Rattle.dnr_spec.specs.declared.status.Status.{Status}
use Rattle.dnr_spec.specs.declared.status.Status.TheVariants as status
use Rattle.dnr_spec.specs.Lines.{lines_of}
use Rattle.rule_spec.specs.State.{State}
use Rattle.load_spec.specs.Files.{Files}
use Rattle.session_spec.specs.Loading.{Loaded}
use Rattle.session_spec.specs.Out.{Outside, Session, of_rules, of_words, setting_of, HasLongFileOf, HoldsScript, HoldsTooMuch, HoldsGiven, HasStarted, HasNotStarted, RefusesSession, Opens, IsBeginning}
use Rattle.session_spec.specs.Rounds.{rounds_of, whole_rounds_of, short_lines, ended_lines}
use Rattle.session_spec.specs.Words.{Task, match_files, follow_files, check_file, compile_file, serve_script, make_sample, hide_page, prune_file}
use Rattle.run_laws.specs.History.{IsHistory}

-- the command is this session, and its script has this name
abbrev pub IsSession : Option Task → Session → List ℕ → Type 0
IsSession None session name = ⊥
IsSession (Some (match_files rules script)) session name = (session ≡ of_rules false rules) × (name ≡ script)
IsSession (Some (follow_files rules script)) session name = (session ≡ of_rules true rules) × (name ≡ script)
IsSession (Some (check_file kind file)) session name = ⊥
IsSession (Some (compile_file file)) session name = ⊥
IsSession (Some (serve_script serving)) session name = (session ≡ of_words serving) × (name ≡ serving.script)
IsSession (Some (make_sample sample)) session name = ⊥
IsSession (Some (hide_page file host)) session name = ⊥
IsSession (Some (prune_file file)) session name = ⊥

-- ---- rounds

-- what is said of a script that is so, of its rounds that were served, and of what was written
abbrev pub OfRounds : Type 1
OfRounds = (List ℕ → Type 0) → (List ℕ → List (List (List ℕ))) → List ℕ → Type 0

-- All was read and installed, and of a script that is so what was written is the history of these rounds.
pub record IsHistoryOf (files : Files) (outside : Outside) (session : Session) (Script : List ℕ → Type 0) (rounds_in : List ℕ → List (List (List ℕ))) (written : List ℕ) : Type 0 where
  pub loaded : Loaded
  pub first : State
  pub opens : Opens files session loaded first
  pub script : List ℕ
  pub holds : Script script
  pub history : IsHistory outside.hosts (setting_of session loaded.suffixes) first (rounds_in script) written

-- all rounds of a script within the limits
abbrev pub AllRounds : OfRounds → Files → List ℕ → List ℕ → Type 0
AllRounds Told files name = Told (HoldsScript files name) (λ script. rounds_of (lines_of script))

-- those that are whole before a line that is too long, or one too many
abbrev pub ShortRounds : OfRounds → Files → List ℕ → List ℕ → Type 0
ShortRounds Told files name = Told (HoldsTooMuch files name) (λ script. whole_rounds_of (short_lines script))

-- those that are whole in what the script gave
abbrev pub GivenRounds : OfRounds → Files → Outside → List ℕ → List ℕ → Type 0
GivenRounds Told files outside name = Told (λ given. HoldsGiven files name given outside.left) (λ given. whole_rounds_of (ended_lines given))

-- some first of those that are whole
pub record FirstRounds (Told : OfRounds) (files : Files) (name written : List ℕ) : Type 0 where
  pub count : ℕ
  pub told : Told (λ script. files name ≡ Some script) (λ script. take count (whole_rounds_of (short_lines script))) written

-- what may have been written at some moment: rounds, or the line that says what was refused before them
abbrev pub Meanwhile : OfRounds → Files → Outside → Session → List ℕ → List ℕ → Type 0
Meanwhile Told files outside session name written =
    AllRounds Told files name written ⊎ FirstRounds Told files name written ⊎ RefusesSession files outside session written

-- ---- statuses

-- what a session wrote that ended so, of whose rounds this is told
abbrev pub WroteSo : OfRounds → Files → Outside → Session → List ℕ → Status → List ℕ → Type 0
WroteSo Told files outside session name status.Done written = AllRounds Told files name written
WroteSo Told files outside session name status.Refused written = RefusesSession files outside session written
WroteSo Told files outside session name status.Usage written = ⊥
WroteSo Told files outside session name status.ReadFault written =
    (HasNotStarted outside × (written ≡ []))
    ⊎ (HasStarted outside × GivenRounds Told files outside name written)
WroteSo Told files outside session name status.WriteFault written = IsBeginning (Meanwhile Told files outside session name) written
WroteSo Told files outside session name status.NoMemory written = (written ≡ []) ⊎ IsBeginning (Meanwhile Told files outside session name) written
WroteSo Told files outside session name status.FileTooLong written =
    (HasLongFileOf files session × (written ≡ [])) ⊎ ShortRounds Told files name written
WroteSo Told files outside session name status.DiskFault written = ⊥

-- what a session wrote that ended so: a history, of all its rounds or of the first
abbrev pub Wrote : Files → Outside → Session → List ℕ → Status → List ℕ → Type 0
Wrote files outside session = WroteSo (IsHistoryOf files outside session) files outside session
