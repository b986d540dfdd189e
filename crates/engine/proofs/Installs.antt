-- An extension that is not installed.
use Rattle.std.proofs.Common.{◌≡◌, ℕ, List, subst}
use Rattle.std.specs.Prelude.{string_bytes}
use Rattle.generation.specs.First.{IsFirstRefusal}
use Rattle.generation.specs.declared.first.FirstRefusal.{FirstRefusal}
use Rattle.generation.specs.declared.first.FirstRefusal.TheVariants as first
use Rattle.session_spec.specs.Loading.{Loaded}
use Rattle.session_spec.specs.Refusals.{install_line}
use Rattle.update_spec.specs.Entries.{opening}
use Rattle.update_spec.specs.declared.refusal.Refusal.{Refusal}
use Rattle.engine.specs.Opening.{PrintsLine, EndsInstalling}
use Rattle.engine.specs.declared.refusal.OpenRefusal.{OpenRefusal}
use Rattle.engine.specs.declared.refusal.OpenRefusal.TheVariants.{Usage, Refused, NoFile, TooLong, NoMemory}

pub refused_install : (loaded : Loaded) (r : FirstRefusal) (name : List ℕ) (cause : Refusal) (o : OpenRefusal) → r ≡ first.Refused name cause → IsFirstRefusal (opening loaded.extensions) r
    → PrintsLine (install_line (record { extension = name; cause = cause })) o → EndsInstalling loaded o
refused_install loaded r name cause Usage is why prints = prints
refused_install loaded r name cause (Refused line) is why prints =
    let judged = subst (IsFirstRefusal (opening loaded.extensions)) is why in
    record { refused = record { extension = name; cause = cause }; judged = judged.0; same = prints }
refused_install loaded r name cause NoFile is why prints = prints
refused_install loaded r name cause TooLong is why prints = prints
refused_install loaded r name cause NoMemory is why prints = tt
