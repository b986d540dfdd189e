-- How a command may end, by what was read and written on the way.
use Rattle.std.specs.Prelude.{◌≡◌, ◌⊎◌, ℕ, List, [], ◌∷◌, Option, unwrap_or, IfSome, string_bytes}
use Rattle.std.specs.Io.KnownBytes.{Appends}
use Rattle.dnr_base.specs.Faults.{Rose, Count}
use Rattle.dnr_io.specs.Sink.{AppendsPart}
use Rattle.dnr_spec.specs.declared.status.Status.{Status}
use Rattle.dnr_spec.specs.declared.status.Status.TheVariants as status
use Rattle.load_spec.specs.Files.{Files}
use Rattle.session_load.specs.declared.stop.Stop.{Stop}
use Rattle.session_load.specs.declared.stop.Stop.TheVariants as stop
use Rattle.session_spec.specs.Out.{Outside, conduct_of, EndsBy}
use Rattle.session_spec.specs.Words.{Task}
use Rattle.session_laws.specs.Turns.{counts_between}

-- what was written is as it may be
abbrev pub IsRun : Option (List ℕ) → Option (List ℕ) → (List ℕ → Type 0) → Type 0
IsRun before now may_be = (written : List ℕ) × Appends before now written × may_be written

-- ---- what came from outside

abbrev pub count : ℕ → ℕ → Count
count before now = record { before = before; now = now }

-- what a source has left, and nothing where it does not tell
abbrev pub told : Option (List ℕ) → List ℕ
told left = unwrap_or left []

-- the counts of the shelf, of what it started, of the sink and of the hosts, and what is left to read
abbrev pub outside : Count → Count → Count → List ℕ → List ℕ → Option (List ℕ) → Outside
outside shelf started sink before now left = record {
  shelf = shelf;
  started = started;
  sink = sink;
  hosts = counts_between before now;
  left = told left;
}

-- ---- how a run ends that writes one text

-- all of it was written and the run ends so, or the sink failed and has taken some first bytes of it
abbrev pub EndsText : Option (List ℕ) → Option (List ℕ) → Count → List ℕ → Status → Status → Type 0
EndsText before now sink text all ended =
    ((ended ≡ all) × Appends before now text)
    ⊎ ((ended ≡ status.WriteFault) × Rose sink.before sink.now × AppendsPart before now text)

-- how a run ends that stops before it answers, and what it writes
abbrev pub EndsStop : Option (List ℕ) → Option (List ℕ) → Count → Stop → Status → Type 0
EndsStop before now sink (stop.Refused line) ended = EndsText before now sink (string_bytes line) status.Refused ended
EndsStop before now sink stop.ReadFault ended = (ended ≡ status.ReadFault) × (now ≡ before)
EndsStop before now sink stop.FileTooLong ended = (ended ≡ status.FileTooLong) × (now ≡ before)
EndsStop before now sink stop.NoMemory ended = (ended ≡ status.NoMemory) × (now ≡ before)

-- the text was written as the end of a run, or memory ran out for it
abbrev pub EndsWith : Option (List ℕ) → Option (List ℕ) → Count → List ℕ → Status → Type 0
EndsWith before now sink text ended =
    EndsText before now sink text status.Done ended ⊎ ((ended ≡ status.NoMemory) × (now ≡ before))

-- ---- commands

-- where the shelf tells what its files hold, a command may end so
abbrev pub MayEnd : Option Files → Task → Outside → Option (List ℕ) → Option (List ℕ) → Status → Type 0
MayEnd known task outside before now ended =
    IfSome known (λ files. IsRun before now (EndsBy outside (conduct_of files outside task) ended))

-- the same of a command that asks the first host alone, whatever the counts of the others
abbrev pub MayEndBy : Option Files → Task → Count → Count → Count → Count → Option (List ℕ) → Option (List ℕ) → Option (List ℕ) → Status → Type 0
MayEndBy known task shelf started sink checker left before now ended =
    (others : List ℕ) → MayEnd known task (outside shelf started sink (checker.before ∷ others) (checker.now ∷ others) left) before now ended

-- and of one that asks no host
abbrev pub MayEndAlone : Option Files → Task → Count → Count → Count → Option (List ℕ) → Option (List ℕ) → Option (List ℕ) → Status → Type 0
MayEndAlone known task shelf started sink left before now ended =
    (hosts : List ℕ) → MayEnd known task (outside shelf started sink hosts hosts left) before now ended

-- ---- what was read

-- a text was written that is what the command prints, or a line that says what is refused; or memory ran out
abbrev pub EndsAtOnce : (List ℕ → Type 0) → (List ℕ → Type 0) → Option (List ℕ) → Option (List ℕ) → Count → Status → Type 0
EndsAtOnce Prints Refuses before now sink ended =
    ((text : List ℕ) × Prints text × EndsText before now sink text status.Done ended)
    ⊎ ((line : List ℕ) × Refuses line × EndsText before now sink line status.Refused ended)
    ⊎ ((ended ≡ status.NoMemory) × (now ≡ before))
