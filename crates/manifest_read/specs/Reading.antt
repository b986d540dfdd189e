-- How the parts of a manifest are read.
use Rattle.std.specs.Prelude.{◌≡◌, ◌||◌, ℕ, List, map, Result, Err, String, string_bytes}
use Rattle.std.specs.BTreeSet.{BTreeSet, contains_text}
use Rattle.std.specs.Str.{bytes_eq}
use Rattle.std.specs.declared.alloc.Global.{Global}
use Rattle.load_spec.specs.declared.manifest_path.ManifestPath.{ManifestPath}
use Rattle.load_spec.specs.Manifest.{Resource, has_text, no_json, at, manifest_of}
use Rattle.manifest_read.specs.declared.fault.Fault.{Fault}
use Rattle.manifest_read.specs.declared.fault.Fault.TheVariants.{BadJson, At, NoMemory}

abbrev pub ids_of : List Resource → List (List ℕ)
ids_of resources = map (λ resource. resource.id) resources

-- the ids of a set
abbrev pub ids_in : BTreeSet (String Global) → List (List ℕ)
ids_in set = map string_bytes set.keys

-- the ids of the resources are those that are taken
abbrev pub Taken : BTreeSet (String Global) → List Resource → Type 0
Taken taken resources = (id : List ℕ) → contains_text taken id ≡ has_text (ids_of resources) id

-- the new set has this id too
abbrev pub AddsId : BTreeSet (String Global) → BTreeSet (String Global) → List ℕ → Type 0
AddsId old new id = (other : List ℕ) → contains_text new other ≡ (contains_text old other || bytes_eq id other)

-- the part is at fault so; want of memory may come anywhere
abbrev pub IsFaultOf : {X : Type 0} → Result X ManifestPath → Fault → Type 0
IsFaultOf part BadJson = ⊥
IsFaultOf part (At field) = part ≡ Err field
IsFaultOf part NoMemory = Unit {0}

-- the bytes of a manifest are at fault so
abbrev pub IsFaultOfBytes : List ℕ → Fault → Type 0
IsFaultOfBytes bytes BadJson = manifest_of bytes ≡ Err no_json
IsFaultOfBytes bytes (At field) = manifest_of bytes ≡ Err (at field)
IsFaultOfBytes bytes NoMemory = Unit {0}
