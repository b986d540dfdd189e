-- One line of a script, and all that are read.
use Rattle.std.specs.Prelude.{◌≡◌, ℕ, List, ◌∷◌, [], Option, Result, Ok, Err, IfSome}
use Rattle.std.specs.Io.KnownBytes.{Appends}
use Rattle.dnr_base.specs.Faults.{Count}
use Rattle.dnr_io.specs.Sink.{AppendsPart}
use Rattle.session_spec.specs.Answers.{RisesBy}
use Rattle.keep_spec.specs.Kept.{Kept}
use Rattle.keep_run_spec.specs.Answers.{Asked, told_to, kept_after, Told, LineSays, LinesSay, told_line, told_text, count_host_faults}
use Rattle.keep_run_spec.specs.Ends.{Begins, BeginsShort, IsWhole, LosesNothing}
use Rattle.keep_run.specs.declared.stop.KeepStop.{KeepStop}
use Rattle.keep_run.specs.declared.stop.KeepStop.TheVariants as stop

-- the line of this number that asks for this prints this, and what is kept after it
pub record AskedTold (keep : Kept) (number : ℕ) (asked : Asked) (text : List ℕ) (next : Kept) : Type 0 where
  pub text_is : text ≡ told_line number (told_to keep asked)
  pub left : next ≡ kept_after keep asked

-- this is what the line of this number says, and what is kept after it
pub record LineTold (host : Count) (keep : Kept) (number : ℕ) (line text : List ℕ) (next : Kept) : Type 0 where
  pub told : Told
  pub says : LineSays keep number line told next
  pub text_is : text ≡ told_line number told
  pub rises : RisesBy (count_host_faults (told ∷ [])) host

-- the line was answered, and of the answer this was taken
pub record LineWritten (Taken : List ℕ → Type 0) (host : Count) (keep : Kept) (number : ℕ) (line : List ℕ) (next : Kept) : Type 0 where
  pub text : List ℕ
  pub told : LineTold host keep number line text next
  pub taken : Taken text

-- How a line is not answered and written whole. A crash then leaves all that is kept: the line's update too, where some
-- bytes of its answer were taken.
abbrev pub StopsAtLine : Count → Kept → ℕ → List ℕ → (List ℕ → Type 0) → Option (List ℕ) → Option (List ℕ) → KeepStop → Type 0
StopsAtLine host keep number line images before now stop.ReadFault = ⊥
StopsAtLine host keep number line images before now stop.WriteFault =
    (next : Kept) × LineWritten (AppendsPart before now) host keep number line next × LosesNothing images next
StopsAtLine host keep number line images before now stop.DiskFault = (now ≡ before) × LosesNothing images keep
StopsAtLine host keep number line images before now stop.TooLong = ⊥
StopsAtLine host keep number line images before now stop.NoMemory = (now ≡ before) × LosesNothing images keep

-- ---- lines

-- such lines of the script, where it is told
abbrev pub AreLines : (List ℕ → List (List ℕ) → Type 0) → Option (List ℕ) → List (List ℕ) → Type 0
AreLines Such known lines = IfSome known (λ script. Such script lines)

-- such lines were answered from what was kept at first on, and of the answers this was taken
pub record Wrote (Lines : List (List ℕ) → Type 0) (Taken : List ℕ → Type 0) (host : Count) (first last : Kept) : Type 0 where
  pub lines : List (List ℕ)
  pub are : Lines lines
  pub told : List Told
  pub says : LinesSay first 1 lines told last
  pub taken : Taken (told_text 1 told)
  pub rises : RisesBy (count_host_faults told) host

-- and a crash now leaves all that is kept after them
abbrev pub WroteSafely : (List (List ℕ) → Type 0) → (List ℕ → Type 0) → Count → Kept → (List ℕ → Type 0) → Type 0
WroteSafely Lines Taken host first images = (last : Kept) × Wrote Lines Taken host first last × LosesNothing images last

-- how the answering of a script ends
abbrev pub EndsLines : Option (List ℕ) → Option (List ℕ) → Option (List ℕ) → Count → Kept → (List ℕ → Type 0) → Result (Unit {0}) KeepStop → Type 0
EndsLines known before now host first images (Ok done) = WroteSafely (AreLines IsWhole known) (Appends before now) host first images
EndsLines known before now host first images (Err stop.ReadFault) = WroteSafely (AreLines Begins known) (Appends before now) host first images
EndsLines known before now host first images (Err stop.WriteFault) = WroteSafely (AreLines Begins known) (AppendsPart before now) host first images
EndsLines known before now host first images (Err stop.DiskFault) = WroteSafely (AreLines Begins known) (Appends before now) host first images
EndsLines known before now host first images (Err stop.TooLong) = WroteSafely (AreLines BeginsShort known) (Appends before now) host first images
EndsLines known before now host first images (Err stop.NoMemory) = WroteSafely (AreLines Begins known) (Appends before now) host first images
