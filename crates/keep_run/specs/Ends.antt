-- How the command ends, by what was opened and written on the way.
use Rattle.std.specs.Prelude.{◌≡◌, ◌⊎◌, ℕ, List, ◌++◌, length, Option, Result, Ok, Err, string_bytes}
use Rattle.std.specs.declared.string.String.{String}
use Rattle.std.specs.declared.alloc.Global.{Global}
use Rattle.std.specs.Io.KnownBytes.{Appends}
use Rattle.dnr_base.specs.Faults.{Count}
use Rattle.dnr_base.specs.declared.no_memory.NoMemory.{NoMemory}
use Rattle.dnr_io.specs.Sink.{AppendsPart}
use Rattle.dnr_spec.specs.declared.status.Status.{Status}
use Rattle.dnr_spec.specs.declared.status.Status.TheVariants as status
use Rattle.load_spec.specs.Files.{Files}
use Rattle.keep_disk.specs.Images.{AddsNone}
use Rattle.keep_spec.specs.Kept.{Kept}
use Rattle.keep_run_spec.specs.Answers.{Answered}
use Rattle.keep_run_spec.specs.Ends.{Around, Images, HasRisen, between, AreFirst, AreAll, AreShort, LosesNothing, EndsKeeping}
use Rattle.keep_run_spec.specs.Words.{Keeping}
use Rattle.keep_run.specs.declared.stop.KeepStop.{KeepStop}
use Rattle.keep_run.specs.declared.stop.KeepStop.TheVariants as stop

abbrev pub around : ℕ → ℕ → ℕ → ℕ → ℕ → ℕ → ℕ → ℕ → Around
around shelf shelf_now sink sink_now host host_now disk disk_now = record {
  shelf = between shelf shelf_now;
  sink = between sink sink_now;
  host = between host host_now;
  disk = between disk disk_now;
}

abbrev pub images : List ℕ → (List ℕ → Type 0) → (List ℕ → Type 0) → Images
images seen before now = record { seen = seen; before = before; now = now }

-- what was written is allowed with this status
abbrev pub EndsSo : Option Files → Keeping → Around → Images → Option (List ℕ) → Option (List ℕ) → Status → Type 0
EndsSo known keeping around images before now ended = (written : List ℕ) × Appends before now written × EndsKeeping known keeping around images ended written

-- ---- once the file is opened

-- such lines were answered from what was kept at first on, of the whole text this was taken, and a crash now leaves all that
-- is kept after them
pub record ScriptWritten (Lines : List (List ℕ) → Type 0) (Taken : List ℕ → Type 0) (host : Count) (first : Kept) (images : List ℕ → Type 0) : Type 0 where
  pub lines : List (List ℕ)
  pub are : Lines lines
  pub last : Kept
  pub text : List ℕ
  pub answered : Answered host first lines last text
  pub taken : Taken text
  pub safe : LosesNothing images last

-- How the answering of a script ends. Where memory ran out before the first line was written, a crash leaves what it might
-- have left of the opened file.
abbrev pub EndsOpened : Option Files → List ℕ → Option (List ℕ) → Option (List ℕ) → Count → Kept → (List ℕ → Type 0) → (List ℕ → Type 0) → Result (Unit {0}) KeepStop → Type 0
EndsOpened known script before now host first opened images (Ok done) = ScriptWritten (AreAll known script) (Appends before now) host first images
EndsOpened known script before now host first opened images (Err stop.ReadFault) = ScriptWritten (AreFirst known script) (Appends before now) host first images
EndsOpened known script before now host first opened images (Err stop.WriteFault) = ScriptWritten (AreFirst known script) (AppendsPart before now) host first images
EndsOpened known script before now host first opened images (Err stop.DiskFault) = ScriptWritten (AreFirst known script) (Appends before now) host first images
EndsOpened known script before now host first opened images (Err stop.TooLong) = ScriptWritten (AreShort known script) (Appends before now) host first images
EndsOpened known script before now host first opened images (Err stop.NoMemory) =
    ((now ≡ before) × AddsNone opened images) ⊎ ScriptWritten (AreFirst known script) (Appends before now) host first images

abbrev pub status_of : Result (Unit {0}) KeepStop → Status
status_of (Ok done) = status.Done
status_of (Err stop.ReadFault) = status.ReadFault
status_of (Err stop.WriteFault) = status.WriteFault
status_of (Err stop.DiskFault) = status.DiskFault
status_of (Err stop.TooLong) = status.FileTooLong
status_of (Err stop.NoMemory) = status.NoMemory

-- ---- where it is refused

-- the line was written, or a part of it since the sink failed, or memory ran out for it
abbrev pub EndsRefused : Option (List ℕ) → Option (List ℕ) → Count → Result (String Global) NoMemory → Status → Type 0
EndsRefused before now sink (Ok line) ended =
    ((ended ≡ status.Refused) × Appends before now (string_bytes line))
    ⊎ ((ended ≡ status.WriteFault) × HasRisen sink × AppendsPart before now (string_bytes line))
EndsRefused before now sink (Err e) ended = (ended ≡ status.NoMemory) × (now ≡ before)
