-- What a reader of lines gives, by what stands ahead of it: the bytes that it has read and not yet given,
-- and after them those that its source has left.
use Rattle.std.specs.Prelude.{◌≡◌, ◌≢◌, ◌⊎◌, ℕ, ◌<◌, ◌≤◌, List, [], ◌∷◌, ◌++◌, length, Bool, true, Option, Some, None}
use Rattle.std.specs.Io.KnownBytes.{prepend_known}
use Rattle.dnr_io.specs.Ahead.{HasNoLf}
use Rattle.dnr_spec.specs.Lines.{RawLine, raw_lines_of, line_of, is_short, max_line, max_lines}

-- a reader of lines: the bytes that were read and not yet given, how many lines were given, and whether
-- another may follow
pub record Reading : Type 0 where
  pub pending : List ℕ
  pub count : ℕ
  pub live : Bool

-- what stands ahead, where the source tells what it has left
abbrev pub ahead : Reading → Option (List ℕ) → Option (List ℕ)
ahead reading left = prepend_known reading.pending left

-- `raw` is the first raw line of what stood ahead, and `rest` stands after it
abbrev pub TakesRaw : Option (List ℕ) → Option (List ℕ) → RawLine → Type 0
TakesRaw None rest raw = Unit {0}
TakesRaw (Some all) None raw = ⊥
TakesRaw (Some all) (Some rest) raw = raw_lines_of all ≡ raw ∷ raw_lines_of rest

-- `line` is the first line of what stood ahead, and within the limit
pub record GivesLine (all rest : Option (List ℕ)) (line : List ℕ) : Type 0 where
  pub raw : RawLine
  pub first : TakesRaw all rest raw
  pub text : line ≡ line_of raw
  pub short : is_short raw ≡ true

-- each of these lines has its LF
abbrev pub HaveEnded : List RawLine → Type 0
HaveEnded [] = Unit {0}
HaveEnded (raw ∷ raws) = (raw.ended ≡ true) × HaveEnded raws

-- where nothing is left behind them, the lines of what stood ahead have their LF, also the last
abbrev pub AreEnded : Option (List ℕ) → Option (List ℕ) → Type 0
AreEnded None rest = Unit {0}
AreEnded (Some all) None = Unit {0}
AreEnded (Some all) (Some rest) = rest ≡ [] → HaveEnded (raw_lines_of all)

-- the first line of `all` is too long
pub record StartsTooLong (all : List ℕ) : Type 0 where
  pub raw : RawLine
  pub later : List RawLine
  pub first : raw_lines_of all ≡ raw ∷ later
  pub long : max_line < length raw.bytes

-- after so many lines, the first line of `all` is too long or one too many
abbrev pub IsBeyond : ℕ → List ℕ → Type 0
IsBeyond count all = StartsTooLong all ⊎ ((all ≢ []) × (max_lines ≤ count))

-- the bytes that are left stand behind a part of a line, which has not ended
pub record StopsWithin (all left : List ℕ) : Type 0 where
  pub part : List ℕ
  pub plain : HasNoLf part
  pub split : all ≡ part ++ left

-- the same where both are told
abbrev pub StopsIn : Option (List ℕ) → Option (List ℕ) → Type 0
StopsIn None left = Unit {0}
StopsIn (Some all) None = Unit {0}
StopsIn (Some all) (Some left) = StopsWithin all left
