-- What may be written where dynamic rules are kept in a file, by the status that the command ends with, and what a crash
-- may leave of the file then.
use Rattle.std.specs.Prelude.{◌≡◌, ◌⊎◌, ℕ, ◌<◌, List, [], ◌++◌, length, map, true, false, Option, Some, IfSome}
use Rattle.std.specs.List.{list_all}
use Rattle.dnr_base.specs.Faults.{Count, Rose}
use Rattle.dnr_spec.specs.declared.status.Status.{Status}
use Rattle.dnr_spec.specs.declared.status.Status.TheVariants as status
use Rattle.dnr_spec.specs.Lines.{RawLine, raw_lines_of, line_of, lines_of, is_short, is_within_limits}
use Rattle.load_spec.specs.Files.{Files}
use Rattle.update_spec.specs.Update.{Update}
use Rattle.keep_records.specs.Records.{payloads}
use Rattle.keep_records.specs.Ends.{max_file}
use Rattle.keep_spec.specs.Kept.{Kept, kept}
use Rattle.keep_spec.specs.Agrees.{AreAlike, HadList, IsFirstRefused}
use Rattle.keep_run_spec.specs.Words.{Keeping}
use Rattle.keep_run_spec.specs.Output.{too_long_line, bad_record_line, host_line}
use Rattle.keep_run_spec.specs.Answers.{kept_in, Answered}

-- how often each thing had failed before the call and after it
pub record Around : Type 0 where
  pub shelf : Count
  pub sink : Count
  pub host : Count
  pub disk : Count

abbrev pub between : ℕ → ℕ → Count
between before now = record { before = before; now = now }

abbrev pub HasRisen : Count → Type 0
HasRisen count = Rose count.before count.now

-- What the file was, what a crash before the call could have left of it, and what a crash after the call may leave. An
-- image is the bytes of the file then.
pub record Images : Type 1 where
  pub seen : List ℕ
  pub before : List ℕ → Type 0
  pub now : List ℕ → Type 0

-- ---- what a crash may leave

-- the image has a list that begins with this one
pub record BeginsWith (name : List ℕ) (list : List Update) (image : List ℕ) : Type 0 where
  pub rest : List Update
  pub alike : AreAlike (kept name image) (list ++ rest)

-- a crash now leaves all that is kept
abbrev pub LosesNothing : (List ℕ → Type 0) → Kept → Type 0
LosesNothing images keep = (image : List ℕ) → images image → BeginsWith keep.name keep.list image

-- a crash now leaves only lists that a crash before could have left
abbrev pub LeavesAsBefore : List ℕ → Images → Type 0
LeavesAsBefore name images = (image : List ℕ) → images.now image → HadList name images.before image

-- ---- the lines of the script that are answered, where it is known what files hold

-- these are the first lines of the script, none of them too long, and behind them stands this
pub record AreAhead (script : List ℕ) (lines : List (List ℕ)) (later : List RawLine) : Type 0 where
  pub raws : List RawLine
  pub split : raw_lines_of script ≡ raws ++ later
  pub short : list_all is_short raws ≡ true
  pub texts : lines ≡ map line_of raws

-- some first lines
abbrev pub Begins : List ℕ → List (List ℕ) → Type 0
Begins script lines = (later : List RawLine) × AreAhead script lines later

-- those before what is too long
abbrev pub BeginsShort : List ℕ → List (List ℕ) → Type 0
BeginsShort script lines = (is_within_limits script ≡ false) × Begins script lines

-- all lines, which are within the limits
abbrev pub IsWhole : List ℕ → List (List ℕ) → Type 0
IsWhole script lines = (is_within_limits script ≡ true) × (lines ≡ lines_of script)

-- the file is there, and these are such lines of it
abbrev pub AreOf : (List ℕ → List (List ℕ) → Type 0) → Files → List ℕ → List (List ℕ) → Type 0
AreOf Such files name lines = (script : List ℕ) × (files name ≡ Some script) × Such script lines

abbrev pub AreAll : Option Files → List ℕ → List (List ℕ) → Type 0
AreAll known name lines = IfSome known (λ files. AreOf IsWhole files name lines)

abbrev pub AreShort : Option Files → List ℕ → List (List ℕ) → Type 0
AreShort known name lines = IfSome known (λ files. AreOf BeginsShort files name lines)

-- some first lines, or none of a file that may not be there
abbrev pub AreFirst : Option Files → List ℕ → List (List ℕ) → Type 0
AreFirst known name lines = IfSome known (λ files. (lines ≡ []) ⊎ AreOf Begins files name lines)

-- Such lines were answered from what the file kept on, and a crash now leaves all that is kept after them.
pub record Answers (Lines : List (List ℕ) → Type 0) (keeping : Keeping) (host : Count) (images : Images) (text : List ℕ) : Type 0 where
  pub lines : List (List ℕ)
  pub are : Lines lines
  pub last : Kept
  pub answered : Answered host (kept_in keeping.extension images.seen) lines last text
  pub safe : LosesNothing images.now last

-- ---- a file that is refused

-- what is printed: the file is too long, a record is not one that it may hold, or the host failed at a pattern of one
abbrev pub Refuses : Keeping → Count → List ℕ → List ℕ → Type 0
Refuses keeping host seen line =
    ((max_file < length seen) × (line ≡ too_long_line keeping.file))
    ⊎ ((place : ℕ) × IsFirstRefused keeping.extension (payloads seen) place × (line ≡ bad_record_line keeping.file place))
    ⊎ (HasRisen host × (line ≡ host_line keeping.file))

-- ---- how it ends

-- nothing was written, and a crash now leaves no other list than before
pub record NothingDone (keeping : Keeping) (images : Images) (written : List ℕ) : Type 0 where
  pub silent : written ≡ []
  pub same : LeavesAsBefore keeping.extension images

pub record IsRefused (keeping : Keeping) (host : Count) (images : Images) (written : List ℕ) : Type 0 where
  pub refuses : Refuses keeping host images.seen written
  pub same : LeavesAsBefore keeping.extension images

-- some first bytes of a text were written
pub record IsBeginning (May : List ℕ → Type 0) (written : List ℕ) : Type 0 where
  pub rest : List ℕ
  pub whole : May (written ++ rest)

-- What a status says of the command. On every status the updates whose lines say that they were accepted are in each
-- image that a crash may leave, in their order and behind those that the file held before; or no such line was written,
-- and a crash leaves no other list than one before the call could.
abbrev pub EndsKeeping : Option Files → Keeping → Around → Images → Status → List ℕ → Type 0
EndsKeeping known keeping around images status.Done written = Answers (AreAll known keeping.script) keeping around.host images written
EndsKeeping known keeping around images status.Refused written = IsRefused keeping around.host images written
EndsKeeping known keeping around images status.Usage written = ⊥
EndsKeeping known keeping around images status.ReadFault written =
    HasRisen around.shelf × Answers (AreFirst known keeping.script) keeping around.host images written
EndsKeeping known keeping around images status.WriteFault written =
    HasRisen around.sink
    × (IsBeginning (Answers (AreFirst known keeping.script) keeping around.host images) written
    ⊎ IsBeginning (IsRefused keeping around.host images) written)
EndsKeeping known keeping around images status.NoMemory written =
    NothingDone keeping images written ⊎ Answers (AreFirst known keeping.script) keeping around.host images written
EndsKeeping known keeping around images status.FileTooLong written = Answers (AreShort known keeping.script) keeping around.host images written
EndsKeeping known keeping around images status.DiskFault written =
    HasRisen around.disk
    × (NothingDone keeping images written ⊎ Answers (AreFirst known keeping.script) keeping around.host images written)
