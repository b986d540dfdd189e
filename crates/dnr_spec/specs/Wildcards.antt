-- Patterns that a whole text fits or does not: bytes, `*` for any bytes, and `?` for at most one.
use Rattle.std.specs.Prelude.{ℕ, List, [], ◌∷◌, Bool, ◌||◌}
use Rattle.dnr_spec.specs.declared.piece.Piece.{Piece}
use Rattle.dnr_spec.specs.declared.piece.Piece.TheVariants.{AnyBytes, AtMostOne, Byte}
use Rattle.dnr_spec.specs.UrlFilter.{some_end, at_byte, is_nothing}

-- the test passes here, or behind the byte that stands here
abbrev pub here_or_behind : (List ℕ → Bool) → List ℕ → Bool
here_or_behind test [] = test []
here_or_behind test (b ∷ rest) = test (b ∷ rest) || test rest

-- the pieces in turn take the whole text; `fold` where the case of ASCII letters does not matter
abbrev pub takes : Bool → List Piece → List ℕ → Bool
takes fold [] text = is_nothing text
takes fold (AnyBytes ∷ pieces) text = some_end (takes fold pieces) text
takes fold (AtMostOne ∷ pieces) text = here_or_behind (takes fold pieces) text
takes fold (Byte b ∷ pieces) text = at_byte fold b (takes fold pieces) text
