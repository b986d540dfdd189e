-- An extension of a folder: its manifest, and the rules of the files that it names, each within the limit of a file.
use Rattle.std.specs.Prelude.{◌≡◌, ◌⊎◌, ℕ, List, [], ◌∷◌, ◌++◌, codes, Option, Ok, Err}
use Rattle.std.specs.List.{AllZip}
use Rattle.rule_spec.specs.declared.rule_kind.RuleKind.TheVariants.{Static}
use Rattle.rule_spec.specs.Rule.{Rule}
use Rattle.json_spec.specs.RulesFile.{FileRefusal, bad_json}
use Rattle.update_spec.specs.Update.{NewRuleSet, NewExtension}
use Rattle.load_spec.specs.declared.manifest_path.ManifestPath.{ManifestPath}
use Rattle.load_spec.specs.Files.{Files, HoldsFile, HoldsLongFile, HoldsRules, BreaksForm, StopsAtHost}
use Rattle.load_spec.specs.Manifest.{Resource, Manifest, ManifestFault, no_json, at, manifest_of}

-- ---- names

-- a file of the extension's folder, as its manifest names it
abbrev pub file_in : List ℕ → List ℕ → List ℕ
file_in extension file = extension ++ codes "/" ++ file

abbrev pub manifest_name : List ℕ → List ℕ
manifest_name extension = file_in extension (codes "manifest.json")

-- ---- an extension that is read

-- the ruleset of these rules, which the manifest names so
abbrev pub set_of : Resource → List Rule → NewRuleSet
set_of resource rules = record { id = resource.id; enabled = resource.enabled; rules = rules; origins = [] }

-- an extension as it is installed
abbrev pub extension_of : List ℕ → List NewRuleSet → Option (List (List ℕ)) → NewExtension
extension_of name sets access = record { name = name; sets = sets; access = access }

-- the file that a resource names holds the rules of the ruleset
pub record HoldsSet (files : Files) (extension : List ℕ) (resource : Resource) (set : NewRuleSet) : Type 0 where
  pub rules : List Rule
  pub loaded : HoldsRules files Static (file_in extension resource.path) rules
  pub same : set ≡ set_of resource rules

-- the file of the manifest holds this one
pub record HoldsManifest (files : Files) (extension : List ℕ) (manifest : Manifest) : Type 0 where
  pub bytes : List ℕ
  pub file : HoldsFile files (manifest_name extension) bytes
  pub read : manifest_of bytes ≡ Ok manifest

-- the folder of this name holds the extension
pub record HoldsExtension (files : Files) (name : List ℕ) (extension : NewExtension) : Type 0 where
  pub manifest : Manifest
  pub held : HoldsManifest files name manifest
  pub sets : List NewRuleSet
  pub loaded : AllZip (HoldsSet files name) manifest.resources sets
  pub same : extension ≡ extension_of name sets manifest.access

-- ---- one that is not read

-- of things that are read in order, all before some one were read, and that one ends so
abbrev pub EndsAtOne : {X Y : Type 0} → (X → Y → Type 0) → (X → Type 0) → List X → Type 0
EndsAtOne Reads Ends [] = ⊥
EndsAtOne {Y = Y} Reads Ends (x ∷ xs) = Ends x ⊎ ((y : Y) × Reads x y × EndsAtOne Reads Ends xs)

-- why a file is refused: it is no JSON, its list of rules is refused so, or this field of a manifest is at fault
pub data FileCause : Type 0 where
  bad_rules_file : FileRefusal → FileCause
  bad_manifest : ManifestPath → FileCause

-- a file, and why it is refused
pub record RefusedFile : Type 0 where
  pub file : List ℕ
  pub cause : FileCause

abbrev pub manifest_cause : ManifestFault → FileCause
manifest_cause no_json = bad_rules_file bad_json
manifest_cause (at field) = bad_manifest field

-- the manifest is refused
pub record BreaksManifest (files : Files) (extension : List ℕ) (refused : RefusedFile) : Type 0 where
  pub bytes : List ℕ
  pub file : HoldsFile files (manifest_name extension) bytes
  pub fault : ManifestFault
  pub read : manifest_of bytes ≡ Err fault
  pub same : refused ≡ record { file = manifest_name extension; cause = manifest_cause fault }

-- the rules file that a resource names is refused; `rose` where the count of the pattern host that reads files rose
pub record BreaksSet (files : Files) (rose : Type 0) (extension : List ℕ) (refused : RefusedFile) (resource : Resource) : Type 0 where
  pub refusal : FileRefusal
  pub broken :
      BreaksForm files Static (file_in extension resource.path) refusal
      ⊎ (rose × StopsAtHost files Static (file_in extension resource.path) refusal)
  pub same : refused ≡ record { file = file_in extension resource.path; cause = bad_rules_file refusal }

-- the first rules file that is not read ends so
pub record EndsInSets (files : Files) (extension : List ℕ) (Ends : Resource → Type 0) : Type 0 where
  pub manifest : Manifest
  pub held : HoldsManifest files extension manifest
  pub first : EndsAtOne (HoldsSet files extension) Ends manifest.resources

-- a file of the extension is refused, and those that are read before it are not
abbrev pub RefusesExtension : Files → Type 0 → List ℕ → RefusedFile → Type 0
RefusesExtension files rose name refused =
    BreaksManifest files name refused ⊎ EndsInSets files name (BreaksSet files rose name refused)

-- a file of the extension is too long, and those that are read before it were read
abbrev pub HasLongFile : Files → List ℕ → Type 0
HasLongFile files name =
    HoldsLongFile files (manifest_name name)
    ⊎ EndsInSets files name (λ resource. HoldsLongFile files (file_in name resource.path))
