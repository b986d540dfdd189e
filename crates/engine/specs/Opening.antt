-- How an engine is opened over files in memory: as `serve` and `match` begin, whose words are read.
use Rattle.std.specs.Prelude.{◌≡◌, ℕ, List, [], ◌∷◌, Bool, true, false, ◌&&◌, Option, Some, None, Ok, Err, IsSomeAnd, string_bytes}
use Rattle.std.specs.List.{list_any, list_all}
use Rattle.dnr_base.specs.Faults.{Count}
use Rattle.dnr_io.specs.Files.{is_named, held_or_empty}
use Rattle.dnr_io.specs.declared.files.MemoryFile.{MemoryFile}
use Rattle.load_spec.specs.Files.{Files}
use Rattle.session_load.specs.declared.stop.Stop.{Stop}
use Rattle.session_load.specs.declared.stop.Stop.TheVariants as stop
use Rattle.session_spec.specs.Loading.{Loaded}
use Rattle.session_spec.specs.Out.{Outside, Session, of_rules, of_words, Opens, RefusesSession, HasLongFileOf}
use Rattle.session_spec.specs.Refusals.{install_line}
use Rattle.session_spec.specs.Words.{Installed, folder, list, Task, match_files, serve_script}
use Rattle.update_spec.specs.Entries.{RefusedInstall, opening}
use Rattle.engine.specs.Held.{Held, no_faults}
use Rattle.engine.specs.declared.refusal.OpenRefusal.{OpenRefusal}
use Rattle.engine.specs.declared.refusal.OpenRefusal.TheVariants.{Usage, Refused, NoFile, TooLong, NoMemory}

-- ---- which session the words ask for

-- the session of `match` or of `serve`; an engine is opened for no other command
abbrev pub session_of : Option Task → Option Session
session_of (Some (match_files rules script)) = Some (of_rules false rules)
session_of (Some (serve_script serving)) = Some (of_words serving)
session_of _ = None

-- ---- files that are named

abbrev pub is_given : List MemoryFile → List ℕ → Bool
is_given files name = list_any (is_named name) files

-- nothing is named, or it is there
abbrev pub is_given_at : List MemoryFile → Option (List ℕ) → Bool
is_given_at files None = true
is_given_at files (Some name) = is_given files name

-- the file of a filter list; an extension of a folder has a manifest instead
abbrev pub file_of : Installed → Option (List ℕ)
file_of (folder name) = None
file_of (list name file) = Some file

-- the suffix list and each filter list are there, or the rules file
abbrev pub are_given : List MemoryFile → Session → Bool
are_given files (of_rules follows name) = is_given files name
are_given files (of_words serving) =
    is_given_at files serving.suffixes && list_all (λ one. is_given_at files (file_of one)) serving.installed

-- ---- what is installed

-- what was loaded is in force
pub record IsInstalled (loaded : Loaded) (held : Held) : Type 0 where
  pub suffixes : held.suffixes ≡ loaded.suffixes
  pub installed : opening loaded.extensions ≡ Ok held.state
  pub calm : held.faults ≡ no_faults

-- an extension is not installed, and this line says so
pub record PrintsInstall (loaded : Loaded) (line : List ℕ) : Type 0 where
  pub refused : RefusedInstall
  pub judged : opening loaded.extensions ≡ Err refused
  pub same : line ≡ install_line refused

-- ---- what is read

-- all was read from these files and installed: the state is that before the first line of the session's script
pub record IsRead (files : Files) (session : Session) (held : Held) : Type 0 where
  pub loaded : Loaded
  pub opens : Opens files session loaded held.state
  pub suffixes : held.suffixes ≡ loaded.suffixes
  pub calm : held.faults ≡ no_faults

-- nothing came from outside but faults of the pattern host that reads rules, so many
abbrev pub with_faults : ℕ → Outside
with_faults count = record {
  shelf = record { before = 0; now = 0 };
  started = record { before = 0; now = 0 };
  sink = record { before = 0; now = 0 };
  hosts = record { before = 0; now = count } ∷ [];
  left = [];
}

-- a file is refused or an extension is not installed, and this line says so
pub record IsRefused (files : Files) (session : Session) (line : List ℕ) : Type 0 where
  pub faults : ℕ
  pub refuses : RefusesSession files (with_faults faults) session line

-- the session is opened over these files
pub record IsOpened (files : List MemoryFile) (session : Session) (held : Held) : Type 0 where
  pub given : are_given files session ≡ true
  pub read : IsRead (held_or_empty files) session held

-- ---- why an engine is not opened

-- what each refusal says: that there is no session, that a line is printed, that a file is not there, that one is too long
abbrev pub EndsAs : Type 0 → (List ℕ → Type 0) → Type 0 → Type 0 → OpenRefusal → Type 0
EndsAs NoSession Prints Lacks Long Usage = NoSession
EndsAs NoSession Prints Lacks Long (Refused line) = Prints (string_bytes line)
EndsAs NoSession Prints Lacks Long NoFile = Lacks
EndsAs NoSession Prints Lacks Long TooLong = Long
EndsAs NoSession Prints Lacks Long NoMemory = Unit {0}

abbrev pub PrintsLine : List ℕ → OpenRefusal → Type 0
PrintsLine line refusal = EndsAs ⊥ (λ text. text ≡ line) ⊥ ⊥ refusal

abbrev pub EndsInstalling : Loaded → OpenRefusal → Type 0
EndsInstalling loaded refusal = EndsAs ⊥ (PrintsInstall loaded) ⊥ ⊥ refusal

abbrev pub EndsReading : Files → Session → OpenRefusal → Type 0
EndsReading files session refusal = EndsAs ⊥ (IsRefused files session) ⊥ (HasLongFileOf files session) refusal

abbrev pub EndsOpening : List MemoryFile → Session → OpenRefusal → Type 0
EndsOpening files session refusal =
    EndsAs ⊥ (IsRefused (held_or_empty files) session) (are_given files session ≡ false) (HasLongFileOf (held_or_empty files) session) refusal

-- what it is to an engine that something is not loaded
abbrev pub EndsSo : Stop → OpenRefusal → Type 0
EndsSo (stop.Refused line) refusal = refusal ≡ Refused line
EndsSo stop.ReadFault refusal = refusal ≡ NoMemory
EndsSo stop.FileTooLong refusal = refusal ≡ TooLong
EndsSo stop.NoMemory refusal = refusal ≡ NoMemory

-- ---- words

-- an engine is opened for the command that the words ask for
abbrev pub IsOpenedBy : Option Task → List MemoryFile → Held → Type 0
IsOpenedBy task files held = IsSomeAnd (session_of task) (λ session. IsOpened files session held)

abbrev pub EndsFor : Option Task → List MemoryFile → OpenRefusal → Type 0
EndsFor task files refusal =
    EndsAs (session_of task ≡ None) (λ line. IsSomeAnd (session_of task) (λ session. IsRefused (held_or_empty files) session line))
    (IsSomeAnd (session_of task) (λ session. are_given files session ≡ false))
    (IsSomeAnd (session_of task) (λ session. HasLongFileOf (held_or_empty files) session)) refusal
