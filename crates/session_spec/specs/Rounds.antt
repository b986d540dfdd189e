-- The rounds of a script. What a session answers is written round by round: a program that ends its lines by `sync` has
-- its answers before it writes on, and no more of a script is held than one round.
use Rattle.std.specs.Prelude.{ℕ, ◌+◌, List, [], ◌∷◌, length, take, take_while, filter, map, Bool, true, false, ◌||◌, nat_le, Result, Ok, Err, if◌then◌else◌}
use Rattle.dnr_spec.specs.Lines.{RawLine, raw_lines_of, line_of, is_short, max_lines}
use Rattle.line_spec.specs.declared.line_fault.LineFault.{LineFault}
use Rattle.line_spec.specs.Line.{Command, blank, sync, request, explain, update, batch, command_of}

-- the lines that a round has at most, and the sum of their bytes at which it ends
abbrev pub max_round_lines : ℕ
max_round_lines = 1024

abbrev pub full_round_bytes : ℕ
full_round_bytes = 8388608

-- what a round holds so far: its lines, the sum of their bytes, and how many ask for an answer to a request
pub record Held : Type 0 where
  pub lines : ℕ
  pub bytes : ℕ
  pub asked : ℕ

abbrev pub holds_nothing : Held
holds_nothing = record { lines = 0; bytes = 0; asked = 0 }

-- ---- what ends a round

abbrev pub is_sync : Result Command LineFault → Bool
is_sync (Ok blank) = false
is_sync (Ok sync) = true
is_sync (Ok (request r)) = false
is_sync (Ok (explain r)) = false
is_sync (Ok (update one)) = false
is_sync (Ok (batch all)) = false
is_sync (Err fault) = false

abbrev pub asks : Result Command LineFault → ℕ
asks (Ok blank) = 0
asks (Ok sync) = 0
asks (Ok (request r)) = 1
asks (Ok (explain r)) = 1
asks (Ok (update one)) = 0
asks (Ok (batch all)) = 0
asks (Err fault) = 0

-- one more line, of this number
abbrev pub with_line : Held → ℕ → List ℕ → Held
with_line held number line = record {
  lines = held.lines + 1;
  bytes = held.bytes + length line;
  asked = held.asked + asks (command_of number line);
}

-- it has as much as a round may hold
abbrev pub is_full : Held → Bool
is_full held = nat_le max_round_lines held.lines || nat_le full_round_bytes held.bytes

-- a round ends by a `sync`, or where it is full
abbrev pub ends_round : Held → ℕ → List ℕ → Bool
ends_round held number line = is_sync (command_of number line) || is_full (with_line held number line)

-- ---- rounds

-- a line at the front of the first round
abbrev pub onto_first : List ℕ → List (List (List ℕ)) → List (List (List ℕ))
onto_first line [] = (line ∷ []) ∷ []
onto_first line (round ∷ rounds) = (line ∷ round) ∷ rounds

-- the rounds of lines that are numbered from this one on, where the first holds so much already
abbrev pub rounds_from : Held → ℕ → List (List ℕ) → List (List (List ℕ))
rounds_from held number [] = []
rounds_from held number (line ∷ lines) =
    if ends_round held number line then (line ∷ []) ∷ rounds_from holds_nothing (number + 1) lines
    else onto_first line (rounds_from (with_line held number line) (number + 1) lines)

-- the rounds of a script of these lines; the last one ends with the script
abbrev pub rounds_of : List (List ℕ) → List (List (List ℕ))
rounds_of lines = rounds_from holds_nothing 1 lines

-- the same of a round that may never end
abbrev pub onto_whole : List ℕ → List (List (List ℕ)) → List (List (List ℕ))
onto_whole line [] = []
onto_whole line (round ∷ rounds) = (line ∷ round) ∷ rounds

abbrev pub whole_rounds_from : Held → ℕ → List (List ℕ) → List (List (List ℕ))
whole_rounds_from held number [] = []
whole_rounds_from held number (line ∷ lines) =
    if ends_round held number line then (line ∷ []) ∷ whole_rounds_from holds_nothing (number + 1) lines
    else onto_whole line (whole_rounds_from (with_line held number line) (number + 1) lines)

-- the rounds that have ended with these lines, whatever comes after them
abbrev pub whole_rounds_of : List (List ℕ) → List (List (List ℕ))
whole_rounds_of lines = whole_rounds_from holds_nothing 1 lines

-- ---- the lines of a script that is not read to its end

-- the lines before the first one that is too long or one too many
abbrev pub short_lines : List ℕ → List (List ℕ)
short_lines script = map line_of (take max_lines (take_while is_short (raw_lines_of script)))

abbrev pub has_end : RawLine → Bool
has_end raw = raw.ended

-- the same of those whose LF stands in these first bytes of a script
abbrev pub ended_lines : List ℕ → List (List ℕ)
ended_lines given = map line_of (filter has_end (take max_lines (take_while is_short (raw_lines_of given))))
