-- How a line is put together from pieces of what was read.
use Rattle.std.specs.Prelude.{◌≡◌, ◌≢◌, ℕ, ◌+◌, ◌<◌, List, [], ◌∷◌, ◌++◌, length, slice_index, Bool, false, if◌then◌else◌}
use Rattle.dnr_spec.specs.Lines.{max_line}

abbrev pub HasNoLf : List ℕ → Type 0
HasNoLf bytes = (i : ℕ) → i < length bytes → slice_index bytes i ≢ 10

-- an LF before these bytes, where a line ended
abbrev pub after_end : Bool → List ℕ → List ℕ
after_end ended rest = if ended then 10 ∷ rest else rest

-- `piece` stands before the first LF of `bytes`, or is all of them where they have none, and `rest` are
-- the bytes after both
pub record IsFirstPiece (bytes piece rest : List ℕ) (ended : Bool) : Type 0 where
  pub plain : HasNoLf piece
  pub front : bytes ≡ piece ++ after_end ended rest
  pub all : ended ≡ false → rest ≡ []

-- the first piece was moved to the end of a line
pub record MovesPiece (before after line grown : List ℕ) (ended : Bool) : Type 0 where
  pub piece : List ℕ
  pub first : IsFirstPiece before piece after ended
  pub moved : grown ≡ line ++ piece

-- the line would be too long with the first piece
pub record OverflowsLine (before line : List ℕ) : Type 0 where
  pub piece : List ℕ
  pub rest : List ℕ
  pub plain : HasNoLf piece
  pub front : before ≡ piece ++ rest
  pub long : max_line < length line + length piece
