-- What is kept of a pattern of values beside its text.
use Rattle.std.specs.Prelude.{◌≡◌, ℕ, ◌≤◌, List, length, Bool, true, if◌then◌else◌}
use Rattle.dnr_spec.specs.declared.piece.Piece.{Piece}
use Rattle.dnr_spec.specs.declared.piece.Piece.TheVariants.{Byte}
use Rattle.dnr_spec.specs.HeaderTests.{is_value_pattern, piece_of, pieces_of}

-- what a byte stands for; `plain` where a `\` stands before it
abbrev pub piece_as : ℕ → Bool → Piece
piece_as byte plain = if plain then Byte byte else piece_of byte

pub record IsRead (text : List ℕ) (pieces : List Piece) : Type 0 where
  pub pattern : is_value_pattern text ≡ true
  pub whole : pieces ≡ pieces_of text
  pub few : length pieces ≤ 8192
