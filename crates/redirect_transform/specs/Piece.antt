-- The texts of pieces.
use Rattle.std.specs.Prelude.{ℕ, List, map}
use Rattle.redirect_transform.specs.declared.piece.Piece.{Piece}

abbrev pub texts_of : List Piece → List (List ℕ)
texts_of pieces = map (λ piece. piece.text.now) pieces
