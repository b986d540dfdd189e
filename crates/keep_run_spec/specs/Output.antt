-- The lines that are written where rules are kept in a file, beside those that answer any script.
use Rattle.std.specs.Prelude.{ℕ, List, ◌++◌, codes, decimal}
use Rattle.session_spec.specs.Refusals.{code_text, file_line}
use Rattle.session_spec.specs.Output.{refused_with}

-- the first line: how many updates the file held
abbrev pub kept_line : ℕ → List ℕ
kept_line count = codes "{\"kept\":" ++ (decimal count ++ codes "}\n")

-- an update that the file has no room for
abbrev pub full_line : ℕ → List ℕ
full_line number = refused_with number (code_text (codes "keep-full"))

-- ---- a file that is refused

-- it has more bytes than a kept file may have
abbrev pub too_long_line : List ℕ → List ℕ
too_long_line file = file_line file (codes "\"keep-too-long\"")

-- the record at this place is not one that the file may hold
abbrev pub bad_record_line : List ℕ → ℕ → List ℕ
bad_record_line file place = file_line file (codes "\"bad-record\",\"offset\":" ++ decimal place)

-- the pattern host failed while its records were read
abbrev pub host_line : List ℕ → List ℕ
host_line file = file_line file (codes "\"pattern-host\"")
