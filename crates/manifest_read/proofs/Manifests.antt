-- A manifest, from the bytes of its file.
use Rattle.std.proofs.Common.{◌≡◌, ℕ, ◌<◌, ◌≤◌, List, length, Option, Some, None, Ok, Err, refl, sym, ap, ◌∙◌, subst}
use Rattle.std.specs.Prelude.{IfSome, IsSomeAnd}
use Rattle.serde_json.specs.Data.{Data}
use Rattle.dnr_io.specs.Shelf.{Holds, HoldsMore}
use Rattle.dnr_io.specs.declared.shelf.ShelfRefusal.{ShelfRefusal}
use Rattle.dnr_io.specs.declared.shelf.ShelfRefusal.TheVariants as shelf
use Rattle.json_spec.specs.Json.{tree_of}
use Rattle.json_spec.specs.RulesFile.{max_file}
use Rattle.load_spec.specs.Files.{Files, HoldsLongFile}
use Rattle.load_spec.specs.Manifest.{Manifest, ManifestFault, no_json, at, manifest_in, manifest_of, manifest_of_tree, or_fault}
use Rattle.load_spec.specs.Extensions.{manifest_name, manifest_cause, HoldsManifest, BreaksManifest}
use Rattle.manifest_read.specs.declared.fault.Fault.{Fault}
use Rattle.manifest_read.specs.declared.fault.Fault.TheVariants.{BadJson, At, NoMemory}
use Rattle.manifest_read.specs.Reading.{IsFaultOf, IsFaultOfBytes}
use Rattle.manifest_read.specs.Refusals.{RefusesManifest, fetch_refusal, manifest_refusal}

pub bytes_at_fault : (bytes : List ℕ) (d : Data) (fault : Fault) → Some d ≡ tree_of bytes → IsFaultOf (manifest_in d) fault → IsFaultOfBytes bytes fault
unfolding manifest_of
bytes_at_fault bytes d BadJson is h = absurd h
bytes_at_fault bytes d (At field) is h = ap manifest_of_tree (sym is) ∙ ap or_fault h
bytes_at_fault bytes d NoMemory is h = tt

pub holds_manifest : (known : Option Files) (name file bytes : List ℕ) (manifest : Manifest) → file ≡ manifest_name name → Holds known file bytes → length bytes ≤ max_file
    → manifest_of bytes ≡ Ok manifest → IfSome known (λ files. HoldsManifest files name manifest)
holds_manifest None name file bytes manifest named held short read = tt
holds_manifest (Some files) name file bytes manifest named held short read = record {
  bytes = bytes;
  file = record { held = ap files (sym named) ∙ held; short = short };
  read = read;
}

breaks : (files : Files) (name file bytes : List ℕ) (fault : ManifestFault) → file ≡ manifest_name name → files file ≡ Some bytes → length bytes ≤ max_file
    → manifest_of bytes ≡ Err fault → BreaksManifest files name (record { file = manifest_name name; cause = manifest_cause fault })
breaks files name file bytes fault named held short read = record {
  bytes = bytes;
  file = record { held = ap files (sym named) ∙ held; short = short };
  fault = fault;
  read = read;
  same = refl;
}

refused_so : (files : Files) (name file bytes : List ℕ) (fault : Fault) → file ≡ manifest_name name → files file ≡ Some bytes → length bytes ≤ max_file
    → IsFaultOfBytes bytes fault → RefusesManifest files name (manifest_refusal file fault)
refused_so files name file bytes BadJson named held short h =
    subst (λ f. BreaksManifest files name (record { file = f; cause = manifest_cause no_json })) (sym named) (breaks files name file bytes no_json named held short h)
refused_so files name file bytes (At field) named held short h = breaks files name file bytes (at field) named held short h
refused_so files name file bytes NoMemory named held short h = tt

pub manifest_refused : (known : Option Files) (name file bytes : List ℕ) (fault : Fault) → file ≡ manifest_name name → Holds known file bytes → length bytes ≤ max_file
    → IsFaultOfBytes bytes fault → IfSome known (λ files. RefusesManifest files name (manifest_refusal file fault))
manifest_refused None name file bytes fault named held short h = tt
manifest_refused (Some files) name file bytes fault named held short h = refused_so files name file bytes fault named held short h

long_of : (files : Files) (file : List ℕ) (held : Option (List ℕ)) → files file ≡ held → IsSomeAnd held (λ bytes. max_file < length bytes) → HoldsLongFile files file
long_of files file None is h = absurd h
long_of files file (Some bytes) is h = record { file = bytes; held = is; long = h }

fetch_refused_so : (files : Files) (name file : List ℕ) (refusal : ShelfRefusal) → file ≡ manifest_name name
    → (refusal ≡ shelf.TooLong → HoldsMore (Some files) file max_file) → RefusesManifest files name (fetch_refusal file refusal)
fetch_refused_so files name file shelf.Failed named long = tt
fetch_refused_so files name file shelf.TooLong named long = (named, long_of files file (files file) refl (long refl))
fetch_refused_so files name file shelf.NoMemory named long = tt

pub fetch_refused : (known : Option Files) (name file : List ℕ) (refusal : ShelfRefusal) → file ≡ manifest_name name
    → (refusal ≡ shelf.TooLong → HoldsMore known file max_file) → IfSome known (λ files. RefusesManifest files name (fetch_refusal file refusal))
fetch_refused None name file refusal named long = tt
fetch_refused (Some files) name file refusal named long = fetch_refused_so files name file refusal named long
