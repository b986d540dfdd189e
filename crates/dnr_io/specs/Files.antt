-- What files that are held in memory give by name.
use Rattle.std.specs.Prelude.{ℕ, Bool, List, [], Option, Some, option_map, option_and_then, unwrap_or, slice_get, drop}
use Rattle.std.specs.List.{find}
use Rattle.std.specs.Str.{bytes_eq}
use Rattle.dnr_io.specs.Shelf.{Names}
use Rattle.dnr_io.specs.declared.files.MemoryFile.{MemoryFile}

abbrev pub bytes_of : MemoryFile → List ℕ
bytes_of file = file.bytes

abbrev pub is_named : List ℕ → MemoryFile → Bool
is_named name file = bytes_eq file.name name

-- the bytes of the first file of this name
abbrev pub held_in : List MemoryFile → Names
held_in files name = option_map bytes_of (find (is_named name) files)

-- the same, and no bytes where there is no such file
abbrev pub held_or_empty : List MemoryFile → Names
held_or_empty files name = Some (unwrap_or (held_in files name) [])

-- the bytes of the file at a place, and none at no place
abbrev pub bytes_at : List MemoryFile → Option ℕ → List ℕ
bytes_at files place = unwrap_or (option_map bytes_of (option_and_then (slice_get files) place)) []

-- what is left of that file where this many bytes of it were given
abbrev pub left_in : List MemoryFile → Option ℕ → ℕ → List ℕ
left_in files place given = drop given (bytes_at files place)

-- files, what is left of the one that is read, and how often one was started
pub record OpenFiles : Type 0 where
  pub files : List MemoryFile
  pub left : List ℕ
  pub starts : ℕ
