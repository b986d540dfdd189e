-- The lines of a script.
use Rattle.std.specs.Prelude.{ℕ, ◌-◌, List, [], ◌∷◌, length, take, slice_index, map, Bool, true, false, ◌==◌, ◌&&◌, ◌||◌, nat_lt, nat_le, if◌then◌else◌}
use Rattle.std.specs.List.{list_all}

-- the most bytes that a line has before its LF, and the most lines
abbrev pub max_line : ℕ
max_line = 8388608

abbrev pub max_lines : ℕ
max_lines = 4294967295

-- what stands up to an LF or the end, and whether it ends at an LF
pub record RawLine : Type 0 where
  pub bytes : List ℕ
  pub ended : Bool

-- one more byte at the front of the first line
abbrev pub onto_first : ℕ → List RawLine → List RawLine
onto_first b [] = record { bytes = b ∷ []; ended = false } ∷ []
onto_first b (line ∷ lines) = record { bytes = b ∷ line.bytes; ended = line.ended } ∷ lines

-- a line ends at LF, and what stands after the last LF is a line where it is not empty
abbrev pub raw_lines_of : List ℕ → List RawLine
raw_lines_of [] = []
raw_lines_of (b ∷ bytes) =
    if b == 10 then record { bytes = []; ended = true } ∷ raw_lines_of bytes
    else onto_first b (raw_lines_of bytes)

-- the bytes without a CR at their end
abbrev pub without_cr : List ℕ → List ℕ
without_cr bytes =
    if nat_lt 0 (length bytes) && slice_index bytes (length bytes - 1) == 13 then take (length bytes - 1) bytes
    else bytes

-- a line loses a CR before its LF
abbrev pub line_of : RawLine → List ℕ
line_of line = if line.ended then without_cr line.bytes else line.bytes

abbrev pub lines_of : List ℕ → List (List ℕ)
lines_of script = map line_of (raw_lines_of script)

-- no line is too long, and there are not too many
abbrev pub is_short : RawLine → Bool
is_short line = nat_le (length line.bytes) max_line

abbrev pub is_within_limits : List ℕ → Bool
is_within_limits script = list_all is_short (raw_lines_of script) && nat_le (length (raw_lines_of script)) max_lines

-- a line of spaces, tabs or nothing
abbrev pub is_blank : List ℕ → Bool
is_blank line = list_all (λ b. b == 32 || b == 9) line
