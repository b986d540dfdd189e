-- Why an extension is not read.
use Rattle.std.specs.Prelude.{◌≡◌, ◌⊎◌, ℕ, List, false}
use Rattle.dnr_io.specs.declared.shelf.ShelfRefusal.{ShelfRefusal}
use Rattle.dnr_io.specs.declared.shelf.ShelfRefusal.TheVariants as shelf
use Rattle.json_spec.specs.RulesFile.{bad_json, bad_rules}
use Rattle.load_spec.specs.Files.{Files, HoldsLongFile}
use Rattle.load_spec.specs.Manifest.{Resource}
use Rattle.load_spec.specs.Extensions.{bad_rules_file, bad_manifest, file_in, manifest_name, HoldsSet, BreaksManifest, BreaksSet, EndsAtOne, EndsInSets, RefusesExtension, HasLongFile}
use Rattle.rules_file.specs.declared.FileRefusal.TheVariants as content
use Rattle.rules_file.specs.declared.load.LoadRefusal.{LoadRefusal}
use Rattle.rules_file.specs.declared.load.LoadRefusal.TheVariants as load
use Rattle.rules_file.specs.Answers.{is_no_memory}
use Rattle.manifest_read.specs.declared.fault.Fault.{Fault}
use Rattle.manifest_read.specs.declared.fault.Fault.TheVariants as fault
use Rattle.manifest_read.specs.declared.refusal.ManifestRefusal.{ManifestRefusal}
use Rattle.manifest_read.specs.declared.refusal.ManifestRefusal.TheVariants.{ReadFault, FileTooLong, BadJson, BadManifest, RuleRefused, NoMemory}

-- ---- an extension

-- this file of the extension is too long, and those that are read before it were read
abbrev pub IsLongFile : Files → List ℕ → List ℕ → Type 0
IsLongFile files name file =
    ((file ≡ manifest_name name) × HoldsLongFile files file)
    ⊎ EndsInSets files name (λ resource. (file ≡ file_in name resource.path) × HoldsLongFile files file)

-- why the folder of this name gives no extension; `rose` where the count of the pattern host rose
abbrev pub Refuses : Files → Type 0 → List ℕ → ManifestRefusal → Type 0
Refuses files rose name ReadFault = Unit {0}
Refuses files rose name (FileTooLong file) = HasLongFile files name × IsLongFile files name file
Refuses files rose name (BadJson file) =
    RefusesExtension files rose name (record { file = file; cause = bad_rules_file bad_json })
Refuses files rose name (BadManifest field) =
    RefusesExtension files rose name (record { file = manifest_name name; cause = bad_manifest field })
Refuses files rose name (RuleRefused file refusal) =
    RefusesExtension files rose name (record { file = file; cause = bad_rules_file (bad_rules refusal) })
Refuses files rose name NoMemory = Unit {0}

-- a rule is refused, and no memory was wanting
abbrev pub IsNoMemoryApart : ManifestRefusal → Type 0
IsNoMemoryApart ReadFault = Unit {0}
IsNoMemoryApart (FileTooLong file) = Unit {0}
IsNoMemoryApart (BadJson file) = Unit {0}
IsNoMemoryApart (BadManifest field) = Unit {0}
IsNoMemoryApart (RuleRefused file refusal) = is_no_memory refusal.cause ≡ false
IsNoMemoryApart NoMemory = Unit {0}

-- ---- its manifest

-- why the folder gives no manifest
abbrev pub RefusesManifest : Files → List ℕ → ManifestRefusal → Type 0
RefusesManifest files name ReadFault = Unit {0}
RefusesManifest files name (FileTooLong file) = (file ≡ manifest_name name) × HoldsLongFile files file
RefusesManifest files name (BadJson file) =
    BreaksManifest files name (record { file = file; cause = bad_rules_file bad_json })
RefusesManifest files name (BadManifest field) =
    BreaksManifest files name (record { file = manifest_name name; cause = bad_manifest field })
RefusesManifest files name (RuleRefused file refusal) = ⊥
RefusesManifest files name NoMemory = Unit {0}

abbrev pub fetch_refusal : List ℕ → ShelfRefusal → ManifestRefusal
fetch_refusal name shelf.Failed = ReadFault
fetch_refusal name shelf.TooLong = FileTooLong name
fetch_refusal name shelf.NoMemory = NoMemory

abbrev pub manifest_refusal : List ℕ → Fault → ManifestRefusal
manifest_refusal name fault.BadJson = BadJson name
manifest_refusal name (fault.At field) = BadManifest field
manifest_refusal name fault.NoMemory = NoMemory

-- ---- a ruleset

-- why the file that the resource names gives no ruleset
abbrev pub RefusesSet : Files → Type 0 → List ℕ → ManifestRefusal → Resource → Type 0
RefusesSet files rose name ReadFault resource = Unit {0}
RefusesSet files rose name (FileTooLong file) resource = (file ≡ file_in name resource.path) × HoldsLongFile files file
RefusesSet files rose name (BadJson file) resource =
    BreaksSet files rose name (record { file = file; cause = bad_rules_file bad_json }) resource
RefusesSet files rose name (BadManifest field) resource = ⊥
RefusesSet files rose name (RuleRefused file refusal) resource =
    BreaksSet files rose name (record { file = file; cause = bad_rules_file (bad_rules refusal) }) resource
RefusesSet files rose name NoMemory resource = Unit {0}

-- the first of the resources that gives no ruleset is refused so; want of memory may come anywhere
abbrev pub RefusesSets : Files → Type 0 → List ℕ → List Resource → ManifestRefusal → Type 0
RefusesSets files rose name resources ReadFault = Unit {0}
RefusesSets files rose name resources NoMemory = Unit {0}
RefusesSets files rose name resources refusal =
    EndsAtOne (HoldsSet files name) (RefusesSet files rose name refusal) resources

abbrev pub set_refusal : List ℕ → LoadRefusal → ManifestRefusal
set_refusal name (load.BadFile content.BadJson) = BadJson name
set_refusal name (load.BadFile (content.BadRules refusal)) = RuleRefused name refusal
set_refusal name load.ReadFault = ReadFault
set_refusal name load.FileTooLong = FileTooLong name
set_refusal name load.NoMemory = NoMemory
