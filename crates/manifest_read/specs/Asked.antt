-- Which files of a shelf are read for an extension.
use Rattle.std.specs.Prelude.{◌≡◌, ℕ, List, Option, Ok, All}
use Rattle.dnr_io.specs.Shelf.{Names, Holds}
use Rattle.load_spec.specs.Extensions.{file_in, manifest_name}
use Rattle.load_spec.specs.Manifest.{Resource, Manifest, manifest_of}

-- a manifest that the folder may hold: where the shelf tells nothing of its files, any that some bytes read as
pub record MayHoldManifest (known : Option Names) (extension : List ℕ) (manifest : Manifest) : Type 0 where
  pub bytes : List ℕ
  pub held : Holds known (manifest_name extension) bytes
  pub read : manifest_of bytes ≡ Ok manifest

-- the files of these rulesets may be asked for
abbrev pub MayAskSets : (List ℕ → Type 0) → List ℕ → List Resource → Type 0
MayAskSets allows extension resources = All (λ resource. allows (file_in extension resource.path)) resources

-- the files of an extension may be asked for: its manifest, and those of the rulesets that the manifest names
pub record MayAskExtension (allows : List ℕ → Type 0) (known : Option Names) (extension : List ℕ) : Type 0 where
  pub manifest : allows (manifest_name extension)
  pub sets : (manifest : Manifest) → MayHoldManifest known extension manifest → MayAskSets allows extension manifest.resources
