-- The words that ask for dynamic rules to be kept in a file.
use Rattle.std.specs.Prelude.{List, [], ◌∷◌, ℕ, codes, ◌&&◌, Option, Some, None, if◌then◌else◌}
use Rattle.std.specs.Str.{bytes_eq}
use Rattle.session_spec.specs.Words.{is_file_name, is_extension_name}

-- the file that keeps the rules, the extension that they are of, and the script
pub record Keeping : Type 0 where
  pub file : List ℕ
  pub extension : List ℕ
  pub script : List ℕ

abbrev pub keeping_by : List ℕ → List ℕ → List ℕ → Option Keeping
keeping_by file extension script =
    if is_file_name file && is_extension_name extension && is_file_name script then
    Some (record { file = file; extension = extension; script = script })
    else None

-- `keep FILE NAME SCRIPT`
abbrev pub keeping_of : List (List ℕ) → Option Keeping
keeping_of (command ∷ file ∷ extension ∷ script ∷ []) =
    if bytes_eq command (codes "keep") then keeping_by file extension script else None
keeping_of _ = None
