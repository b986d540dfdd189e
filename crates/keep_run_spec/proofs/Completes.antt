-- A sound file and a script within the limits are answered to the end.
use Rattle.std.proofs.Common.{◌≡◌, ◌⊎◌, ⊎_elim, ℕ, ◌<◌, List, length, Bool, true, false, Option, Some, IfSome, refl, sym, ap, ◌∙◌, inl, inr, subst, arith}
use Rattle.dnr_spec.specs.declared.status.Status.{Status}
use Rattle.dnr_spec.specs.declared.status.Status.TheVariants as status
use Rattle.dnr_spec.specs.Lines.{is_within_limits}
use Rattle.load_spec.specs.Files.{Files}
use Rattle.keep_laws.proofs.Accepted.{none_refused}
use Rattle.keep_records.specs.Records.{payloads}
use Rattle.keep_records.specs.Ends.{max_file}
use Rattle.keep_spec.specs.Agrees.{Sound, IsSound, IsFirstRefused}
use Rattle.keep_run_spec.specs.Output.{too_long_line, bad_record_line, host_line}
use Rattle.keep_run_spec.specs.Words.{Keeping}
use Rattle.keep_run_spec.specs.Ends.{Around, HasRisen, Images, AreShort, Answers, IsRefused, EndsKeeping}
use Rattle.keep_run_spec.specs.Laws.{SomethingFailed, HasShortScript}

abbrev Ends : Status → Around → Type 0
Ends ended around = (ended ≡ status.Done) ⊎ (ended ≡ status.NoMemory) ⊎ SomethingFailed around

-- a sound file is refused for nothing but a fault of the host
refused_soundly : (keeping : Keeping) (around : Around) (images : Images) (written : List ℕ) → IsSound keeping.extension images.seen
    → IsRefused keeping around.host images written → HasRisen around.host
refused_soundly keeping around images written sound refused =
    ⊎_elim (λ (long : (max_file < length images.seen) × (written ≡ too_long_line keeping.file)). absurd (omega (arith, long.0, sound.short)))
    (⊎_elim (λ (bad : (place : ℕ) × IsFirstRefused keeping.extension (payloads images.seen) place × (written ≡ bad_record_line keeping.file place)).
    absurd (none_refused keeping.extension (payloads images.seen) bad.0 sound.list sound.read sound.accepted bad.1))
    (λ (failed : HasRisen around.host × (written ≡ host_line keeping.file)). failed.0)) refused.refuses

not_short : (files : Files) (keeping : Keeping) (around : Around) (images : Images) (written : List ℕ) → HasShortScript files keeping.script
    → Answers (AreShort (Some files) keeping.script) keeping around.host images written → ⊥
not_short files keeping around images written short answers =
    let within : is_within_limits answers.are.0 ≡ true = subst (λ (held : Option (List ℕ)). IfSome held (λ script. is_within_limits script ≡ true)) answers.are.1 short in
    absurd (cc (answers.are.2.0, within))

-- Where the file is sound and the script within the limits, all of it is answered, unless something fails or memory runs
-- out.
abbrev pub KeepingsComplete : Type 1
KeepingsComplete =
    (files : Files) (keeping : Keeping) (around : Around) (images : Images) (ended : Status) (written : List ℕ)
    → images.before images.seen → Sound keeping.extension images.before → HasShortScript files keeping.script
    → EndsKeeping (Some files) keeping around images ended written
    → (ended ≡ status.Done) ⊎ (ended ≡ status.NoMemory) ⊎ SomethingFailed around

pub keepings_complete : KeepingsComplete
keepings_complete files keeping around images status.Done written now sound short ends = inl refl
keepings_complete files keeping around images status.Refused written now sound short ends =
    inr (inr (inr (inr (inl (refused_soundly keeping around images written (sound images.seen now) ends)))))
keepings_complete files keeping around images status.Usage written now sound short ends = absurd ends
keepings_complete files keeping around images status.ReadFault written now sound short ends = inr (inr (inl ends.0))
keepings_complete files keeping around images status.WriteFault written now sound short ends = inr (inr (inr (inl ends.0)))
keepings_complete files keeping around images status.NoMemory written now sound short ends = inr (inl refl)
keepings_complete files keeping around images status.FileTooLong written now sound short ends =
    absurd (not_short files keeping around images written short ends)
keepings_complete files keeping around images status.DiskFault written now sound short ends = inr (inr (inr (inr (inr ends.0))))
