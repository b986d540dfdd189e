-- What is read and installed, or why it is not.
use Rattle.std.proofs.Common.{◌≡◌, ℕ, List, Bool, true, false, Option, Some, None, Result, Ok, Err, refl, sym, subst, inl, inr}
use Rattle.std.specs.Prelude.{IfSome, IfOk, IfErr, string_bytes}
use Rattle.dnr_base.specs.Faults.{Rose}
use Rattle.load_spec.specs.Files.{Files, HoldsLongFile}
use Rattle.rule_spec.specs.declared.rule_kind.RuleKind.TheVariants.{Static}
use Rattle.manifest_read.specs.Asked.{MayAskExtension}
use Rattle.dnr_io.specs.Shelf.{Names}
use Rattle.session_load.specs.Asked.{MayAsk, MayAskServing}
use Rattle.session_load.specs.Loads.{StopsInRules, StopsInServing}
use Rattle.session_load.specs.Stops.{StopsAs}
use Rattle.session_load.specs.declared.stop.Stop.{Stop}
use Rattle.session_load.specs.declared.stop.Stop.TheVariants as stop
use Rattle.session_spec.specs.Loading.{Loaded, Loads, PrintsRefusedRules, RefusesFile, HasLongFileIn}
use Rattle.session_spec.specs.Out.{Session, of_rules, of_words, LoadsFor, RefusesSession, HasLongFileOf}
use Rattle.session_spec.specs.Words.{Installed, folder, list, Serving}
use Rattle.engine.specs.Held.{Held}
use Rattle.engine.specs.Opening.{IsInstalled, PrintsInstall, IsRead, IsRefused, EndsAs, EndsInstalling, EndsReading, EndsSo, with_faults}
use Rattle.engine.specs.declared.refusal.OpenRefusal.{OpenRefusal}
use Rattle.engine.specs.declared.refusal.OpenRefusal.TheVariants.{Usage, Refused, NoFile, TooLong, NoMemory}

-- ---- a shelf that may be asked for any name

any_named : (allows : List ℕ → Type 0) (name : Option (List ℕ)) → ((name : List ℕ) → allows name) → IfSome name allows
any_named allows None all = tt
any_named allows (Some name) all = all name

any_installed : (allows : List ℕ → Type 0) (known : Option Names) (installed : Installed) → ((name : List ℕ) → allows name) → MayAsk allows known installed
any_installed allows known (folder name) all = record { manifest = all _; sets = λ manifest held k d inside. all _ }
any_installed allows known (list name file) all = all file

pub any_serving : (allows : List ℕ → Type 0) (known : Option Names) (serving : Serving) → ((name : List ℕ) → allows name) → MayAskServing allows known serving
any_serving allows known serving all = record {
  suffixes = any_named allows serving.suffixes all;
  installed = λ k d inside. any_installed allows known _ all;
}

-- ---- what is read

-- what was read is installed
pub read_installed : {E : Type 0} (result : Result Held E) (files : Files) (session : Session) (loaded : Loaded) → LoadsFor files session loaded → IfOk result (IsInstalled loaded) → IfOk result (IsRead files session)
read_installed (Err e) files session loaded loads is = tt
read_installed (Ok held) files session loaded loads is = record {
  loaded = loaded;
  opens = record { read = loads; installed = is.installed };
  suffixes = is.suffixes;
  calm = is.calm;
}

-- or it is not
installing_ends : (files : Files) (session : Session) (loaded : Loaded) (refusal : OpenRefusal) → LoadsFor files session loaded → EndsInstalling loaded refusal → EndsReading files session refusal
installing_ends files session loaded Usage loads ends = ends
installing_ends files session loaded (Refused line) loads ends =
    record { faults = 0; refuses = inr (record { loaded = loaded; read = loads; refused = ends.refused; judged = ends.judged; output = ends.same }) }
installing_ends files session loaded NoFile loads ends = ends
installing_ends files session loaded TooLong loads ends = absurd ends
installing_ends files session loaded NoMemory loads ends = tt

pub not_installed : {T : Type 0} (result : Result T OpenRefusal) (files : Files) (session : Session) (loaded : Loaded) → LoadsFor files session loaded → IfErr result (EndsInstalling loaded) → IfErr result (EndsReading files session)
not_installed (Ok x) files session loaded loads ends = tt
not_installed (Err refusal) files session loaded loads ends = installing_ends files session loaded refusal loads ends

-- ---- what is not read

-- a file is refused so, where the pattern host failed so often
stops_so : (files : Files) (session : Session) (faults : ℕ) (Prints : List ℕ → Type 0) (Long : Type 0) (s : Stop) (refusal : OpenRefusal)
    → ((line : List ℕ) → Prints line → RefusesSession files (with_faults faults) session line) → (Long → HasLongFileOf files session)
    → StopsAs Prints Long s → EndsSo s refusal → EndsReading files session refusal
stops_so files session faults Prints Long (stop.Refused line) refusal refused long why so =
    subst (EndsReading files session) (sym so) (record { faults = faults; refuses = refused (string_bytes line) why })
stops_so files session faults Prints Long stop.ReadFault refusal refused long why so = subst (EndsReading files session) (sym so) tt
stops_so files session faults Prints Long stop.FileTooLong refusal refused long why so = subst (EndsReading files session) (sym so) (long why)
stops_so files session faults Prints Long stop.NoMemory refusal refused long why so = subst (EndsReading files session) (sym so) tt

rules_end : (files : Files) (name : List ℕ) (faults : ℕ) (s : Stop) (refusal : OpenRefusal) → StopsInRules (Some files) (Rose 0 faults) Static name s → EndsSo s refusal → EndsReading files (of_rules false name) refusal
rules_end files name faults s refusal why so =
    stops_so files (of_rules false name) faults (PrintsRefusedRules files (Rose 0 faults) Static name) (HoldsLongFile files name) s refusal (λ line refused. inl refused) (λ long. long) why so

serving_ends : (files : Files) (serving : Serving) (faults : ℕ) (s : Stop) (refusal : OpenRefusal) → StopsInServing (Some files) (Rose 0 faults) serving s → EndsSo s refusal → EndsReading files (of_words serving) refusal
serving_ends files serving faults s refusal why so =
    stops_so files (of_words serving) faults (RefusesFile files (Rose 0 faults) serving) (HasLongFileIn files serving) s refusal (λ line refused. inl refused) (λ long. long) why so

-- the same of a shelf that tells these files, and a host that had not failed
pub rules_not_read : (known : Option Files) (files : Files) (name : List ℕ) (was faults : ℕ) (s : Stop) (refusal : OpenRefusal) → known ≡ Some files → was ≡ 0
    → StopsInRules known (Rose was faults) Static name s → EndsSo s refusal → EndsReading files (of_rules false name) refusal
rules_not_read known files name was faults s refusal tells calm why so =
    rules_end files name faults s refusal
    (subst (λ (n : ℕ). StopsInRules (Some files) (Rose n faults) Static name s) calm (subst (λ (k : Option Files). StopsInRules k (Rose was faults) Static name s) tells why)) so

pub serving_not_read : (known : Option Files) (files : Files) (serving : Serving) (was faults : ℕ) (s : Stop) (refusal : OpenRefusal) → known ≡ Some files → was ≡ 0
    → StopsInServing known (Rose was faults) serving s → EndsSo s refusal → EndsReading files (of_words serving) refusal
serving_not_read known files serving was faults s refusal tells calm why so =
    serving_ends files serving faults s refusal
    (subst (λ (n : ℕ). StopsInServing (Some files) (Rose n faults) serving s) calm (subst (λ (k : Option Files). StopsInServing k (Rose was faults) serving s) tells why)) so

-- what the shelf tells was read, where it tells these files
pub told_of : (known : Option Files) (files : Files) (Reads : Files → Type 0) → known ≡ Some files → IfSome known Reads → Reads files
told_of known files Reads tells reads = subst (λ (k : Option Files). IfSome k Reads) tells reads
