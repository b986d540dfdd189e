-- How the command ends, once the file is opened or where it is not.
use Rattle.std.proofs.Common.{◌≡◌, ◌⊎◌, ℕ, ◌+◌, ◌≤◌, List, [], ◌∷◌, ◌++◌, length, true, Option, Some, None, Result, Ok, Err, refl, sym, ap, ◌∙◌, inl, inr, subst, arith, append-nil}
use Rattle.std.specs.Prelude.{IfSome, IfOk, IsSome, string_bytes}
use Rattle.std.specs.declared.string.String.{String}
use Rattle.std.specs.declared.alloc.Global.{Global}
use Rattle.std.specs.Io.KnownBytes.{Appends}
use Rattle.dnr_base.specs.Faults.{Count, Rose}
use Rattle.dnr_base.specs.declared.no_memory.NoMemory.{NoMemory}
use Rattle.dnr_io.specs.Shelf.{IsStarted}
use Rattle.dnr_io.specs.Sink.{AppendsPart}
use Rattle.dnr_spec.specs.declared.status.Status.{Status}
use Rattle.dnr_spec.specs.declared.status.Status.TheVariants as status
use Rattle.load_spec.specs.Files.{Files}
use Rattle.keep_disk.specs.Images.{AddsNone}
use Rattle.keep_records.specs.Records.{end_of}
use Rattle.keep_spec.specs.Kept.{Kept, kept}
use Rattle.keep_spec.specs.Agrees.{HadList}
use Rattle.keep_run_spec.specs.Words.{Keeping}
use Rattle.keep_run_spec.specs.Output.{kept_line}
use Rattle.keep_run_spec.specs.Answers.{kept_in, told_text, Answered}
use Rattle.keep_run_spec.specs.Ends.{Around, Images, HasRisen, between, Begins, BeginsShort, IsWhole, AreOf, AreAll, AreShort, AreFirst, LosesNothing, LeavesAsBefore, Answers, Refuses, NothingDone, IsRefused, IsBeginning, EndsKeeping}
use Rattle.keep_run.specs.declared.stop.KeepStop.{KeepStop}
use Rattle.keep_run.specs.declared.stop.KeepStop.TheVariants as stop
use Rattle.keep_run.specs.Lines.{AreLines, Wrote, WroteSafely, EndsLines}
use Rattle.keep_run.specs.Ends.{around as counts, images as seen_images, EndsSo, ScriptWritten, EndsOpened, EndsRefused, status_of}
use Rattle.keep_run.proofs.Answered.{appends_more, appends_nothing, part_behind}

-- ---- the script

-- the lines are of the file that was started
lines_of_file : (Such : List ℕ → List (List ℕ) → Type 0) (files : Files) (name : List ℕ) (left : Option (List ℕ)) (lines : List (List ℕ)) → IsSome left → left ≡ files name
    → AreLines Such left lines → AreOf Such files name lines
lines_of_file Such files name None lines some is are = absurd (cc some)
lines_of_file Such files name (Some script) lines some is are = (script, sym is, are)

all_of : (known : Option Files) (name : List ℕ) (left : Option (List ℕ)) (lines : List (List ℕ)) → IsStarted known name left → AreLines IsWhole left lines → AreAll known name lines
all_of None name left lines started are = tt
all_of (Some files) name left lines started are = lines_of_file IsWhole files name left lines started.0 started.1 are

short_of : (known : Option Files) (name : List ℕ) (left : Option (List ℕ)) (lines : List (List ℕ)) → IsStarted known name left → AreLines BeginsShort left lines → AreShort known name lines
short_of None name left lines started are = tt
short_of (Some files) name left lines started are = lines_of_file BeginsShort files name left lines started.0 started.1 are

first_of : (known : Option Files) (name : List ℕ) (left : Option (List ℕ)) (lines : List (List ℕ)) → IsStarted known name left → AreLines Begins left lines → AreFirst known name lines
first_of None name left lines started are = tt
first_of (Some files) name left lines started are = inr (lines_of_file Begins files name left lines started.0 started.1 are)

none_of : (known : Option Files) (name : List ℕ) → AreFirst known name []
none_of None name = tt
none_of (Some files) name = inl refl

-- ---- what stands behind the first line

script_written : (Lines Of : List (List ℕ) → Type 0) (Taken All : List ℕ → Type 0) (host : Count) (first : Kept) (images : List ℕ → Type 0)
    → ((lines : List (List ℕ)) → Lines lines → Of lines) → ((text : List ℕ) → Taken text → All (kept_line (length first.list) ++ text))
    → WroteSafely Lines Taken host first images → ScriptWritten Of All host first images
script_written Lines Of Taken All host first images are joins wrote =
    let one = wrote.1 in
    record {
      lines = one.lines;
      are = are one.lines one.are;
      last = wrote.0;
      text = kept_line (length first.list) ++ told_text 1 one.told;
      answered = record { told = one.told; says = one.says; text_is = refl; rises = one.rises };
      taken = joins (told_text 1 one.told) one.taken;
      safe = wrote.2;
    }

module _ (known : Option Files) (name : List ℕ) (left : Option (List ℕ)) (before middle now : Option (List ℕ)) (host : Count) (first : Kept) (opened images : List ℕ → Type 0)
    (started : IsStarted known name left) (taken : Appends before middle (kept_line (length first.list))) where
  whole_text : (text : List ℕ) → Appends middle now text → Appends before now (kept_line (length first.list) ++ text)
  whole_text text more = appends_more before middle now (kept_line (length first.list)) text taken more

  part_text : (text : List ℕ) → AppendsPart middle now text → AppendsPart before now (kept_line (length first.list) ++ text)
  part_text text more = part_behind before middle now (kept_line (length first.list)) text taken more

  first_written : WroteSafely (AreLines Begins left) (Appends middle now) host first images → ScriptWritten (AreFirst known name) (Appends before now) host first images
  first_written wrote = script_written (AreLines Begins left) (AreFirst known name) (Appends middle now) (Appends before now) host first images
      (λ lines are. first_of known name left lines started are) whole_text wrote

  pub opened_ends : (result : Result (Unit {0}) KeepStop) → EndsLines left middle now host first images result → EndsOpened known name before now host first opened images result
  opened_ends (Ok done) ends = script_written (AreLines IsWhole left) (AreAll known name) (Appends middle now) (Appends before now) host first images
      (λ lines are. all_of known name left lines started are) whole_text ends
  opened_ends (Err stop.ReadFault) ends = first_written ends
  opened_ends (Err stop.WriteFault) ends = script_written (AreLines Begins left) (AreFirst known name) (AppendsPart middle now) (AppendsPart before now) host first images
      (λ lines are. first_of known name left lines started are) part_text ends
  opened_ends (Err stop.DiskFault) ends = first_written ends
  opened_ends (Err stop.TooLong) ends = script_written (AreLines BeginsShort left) (AreShort known name) (Appends middle now) (Appends before now) host first images
      (λ lines are. short_of known name left lines started are) whole_text ends
  opened_ends (Err stop.NoMemory) ends = inr (first_written ends)

-- no line was answered, and of the first line this was taken
pub none_answered : (known : Option Files) (name : List ℕ) (Taken : List ℕ → Type 0) (was is : ℕ) (first : Kept) (images : List ℕ → Type 0) → was ≤ is
    → Taken (kept_line (length first.list)) → LosesNothing images first → ScriptWritten (AreFirst known name) Taken (between was is) first images
none_answered known name Taken was is first images later taken safe = record {
  lines = [];
  are = none_of known name;
  last = first;
  text = kept_line (length first.list);
  answered = record { told = []; says = (refl, refl); text_is = sym (append-nil (kept_line (length first.list))); rises = omega (arith, later) };
  taken = taken;
  safe = safe;
}

-- ---- the command

unwritten : (before now : Option (List ℕ)) → now ≡ before → Appends before now []
unwritten before now same = subst (λ (t : Option (List ℕ)). Appends before t []) (sym same) (appends_nothing before)

-- what the file kept is what was opened
pub opened_is : (keep : Kept) (name seen : List ℕ) → keep.name ≡ name → keep.list ≡ kept name seen → keep.place ≡ end_of seen → keep.live ≡ true → keep ≡ kept_in name seen
opened_is keep name seen named list place live = λ i. record { name = named i; list = list i; place = place i; live = live i }

answers_so : (Lines : List (List ℕ) → Type 0) (Taken : List ℕ → Type 0) (keeping : Keeping) (was at is : ℕ) (keep : Kept) (images : Images) → was ≤ at
    → keep ≡ kept_in keeping.extension images.seen → (written : ScriptWritten Lines Taken (between at is) keep images.now)
    → Answers Lines keeping (between was is) images written.text
answers_so Lines Taken keeping was at is keep images later same written = record {
  lines = written.lines;
  are = written.are;
  last = written.last;
  answered = subst (λ (k : Kept). Answered (between was is) k written.lines written.last written.text) same (record {
    told = written.answered.told;
    says = written.answered.says;
    text_is = written.answered.text_is;
    rises = omega (arith, later, written.answered.rises);
  });
  safe = written.safe;
}

module _ (known : Option Files) (keeping : Keeping) (a : Around) (images : Images) (before now : Option (List ℕ)) (was at is : ℕ) (keep : Kept) (opened : List ℕ → Type 0)
    (later : was ≤ at) (same : keep ≡ kept_in keeping.extension images.seen) (had : (image : List ℕ) → opened image → HadList keeping.extension images.before image)
    (host : a.host ≡ between was is) where
  so : (Lines : List (List ℕ) → Type 0) (Taken : List ℕ → Type 0) (written : ScriptWritten Lines Taken (between at is) keep images.now) → Answers Lines keeping a.host images written.text
  so Lines Taken written = subst (λ (h : Count). Answers Lines keeping h images written.text) (sym host) (answers_so Lines Taken keeping was at is keep images later same written)

  -- some first bytes of what may be written
  begins : (Lines : List (List ℕ) → Type 0) (written : ScriptWritten Lines (AppendsPart before now) (between at is) keep images.now)
      → IsBeginning (Answers Lines keeping a.host images) written.taken.sent
  begins Lines written = record {
    rest = written.taken.rest;
    whole = subst (λ (text : List ℕ). Answers Lines keeping a.host images text) written.taken.split (so Lines (AppendsPart before now) written);
  }

  pub ends_opened : (result : Result (Unit {0}) KeepStop) → (result ≡ Err stop.ReadFault → HasRisen a.shelf) → (result ≡ Err stop.WriteFault → HasRisen a.sink)
      → (result ≡ Err stop.DiskFault → HasRisen a.disk) → EndsOpened known keeping.script before now (between at is) keep opened images.now result
      → EndsSo known keeping a images before now (status_of result)
  ends_opened (Ok done) shelf sink disk ends = (ends.text, ends.taken, so (AreAll known keeping.script) (Appends before now) ends)
  ends_opened (Err stop.ReadFault) shelf sink disk ends = (ends.text, ends.taken, (shelf refl, so (AreFirst known keeping.script) (Appends before now) ends))
  ends_opened (Err stop.WriteFault) shelf sink disk ends = (ends.taken.sent, ends.taken.taken, (sink refl, inl (begins (AreFirst known keeping.script) ends)))
  ends_opened (Err stop.DiskFault) shelf sink disk ends = (ends.text, ends.taken, (disk refl, inr (so (AreFirst known keeping.script) (Appends before now) ends)))
  ends_opened (Err stop.TooLong) shelf sink disk ends = (ends.text, ends.taken, so (AreShort known keeping.script) (Appends before now) ends)
  ends_opened (Err stop.NoMemory) shelf sink disk (inl none) =
      ([], unwritten before now none.0, inl (record { silent = refl; same = λ image left. had image (none.1 image left) }))
  ends_opened (Err stop.NoMemory) shelf sink disk (inr ends) = (ends.text, ends.taken, inr (so (AreFirst known keeping.script) (Appends before now) ends))

-- ---- where it is refused

-- what is known of a line that was made
pub made : (P : String Global → Type 0) (line : Result (String Global) NoMemory) → IfOk line P → (text : String Global) → line ≡ Ok text → P text
made P line holds text is = subst (λ (r : Result (String Global) NoMemory). IfOk r P) is holds

-- nothing was written
pub ends_silently : (known : Option Files) (keeping : Keeping) (a : Around) (images : Images) (before now : Option (List ℕ)) → now ≡ before → LeavesAsBefore keeping.extension images
    → EndsSo known keeping a images before now status.NoMemory
ends_silently known keeping a images before now same left = ([], unwritten before now same, inl (record { silent = refl; same = left }))

pub ends_by_disk : (known : Option Files) (keeping : Keeping) (a : Around) (images : Images) (before now : Option (List ℕ)) → now ≡ before → LeavesAsBefore keeping.extension images
    → HasRisen a.disk → EndsSo known keeping a images before now status.DiskFault
ends_by_disk known keeping a images before now same left rose = ([], unwritten before now same, (rose, inl (record { silent = refl; same = left })))

module _ (known : Option Files) (keeping : Keeping) (a : Around) (images : Images) (before now : Option (List ℕ)) (left : LeavesAsBefore keeping.extension images) where
  refused_cut : (line : String Global) → Refuses keeping a.host images.seen (string_bytes line) → (part : AppendsPart before now (string_bytes line))
      → IsBeginning (IsRefused keeping a.host images) part.sent
  refused_cut line refuses part = record {
    rest = part.rest;
    whole = subst (λ (text : List ℕ). IsRefused keeping a.host images text) part.split (record { refuses = refuses; same = left });
  }

  pub ends_refused : (line : Result (String Global) NoMemory) (ended : Status) → ((text : String Global) → line ≡ Ok text → Refuses keeping a.host images.seen (string_bytes text))
      → EndsRefused before now a.sink line ended → EndsSo known keeping a images before now ended
  ends_refused (Ok line) ended refuses (inl whole) =
      subst (λ (s : Status). EndsSo known keeping a images before now s) (sym whole.0) (string_bytes line, whole.1, record { refuses = refuses line refl; same = left })
  ends_refused (Ok line) ended refuses (inr cut) =
      subst (λ (s : Status). EndsSo known keeping a images before now s) (sym cut.0)
      (cut.2.sent, cut.2.taken, (cut.1, inr (refused_cut line (refuses line refl) cut.2)))
  ends_refused (Err e) ended refuses none =
      subst (λ (s : Status). EndsSo known keeping a images before now s) (sym none.0) (ends_silently known keeping a images before now none.1 left)
