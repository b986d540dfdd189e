-- A query that grows piece by piece.
use Rattle.std.specs.Prelude.{ℕ, Bool, not, ◌&&◌, nat_le, List, [], ◌∷◌, ◌++◌, length, codes, if◌then◌else◌}
use Rattle.form_urlencoded.specs.Form.{is_nonempty}
use Rattle.dnr_base.specs.declared.query_pair.QueryPair.{QueryPair}
use Rattle.dnr_spec.specs.Transform.{pairs_with, piece_of}

-- the query with one more piece, behind `&`, or behind `?` where it has none
abbrev pub with_piece : List ℕ → List ℕ → List ℕ
with_piece query piece = query ++ (if is_nonempty query then codes "&" else codes "?") ++ piece

abbrev pub with_pieces : List ℕ → List (List ℕ) → List ℕ
with_pieces query [] = query
with_pieces query (piece ∷ rest) = with_pieces (with_piece query piece) rest

-- the pairs that are appended, where a key has so many pieces
abbrev pub appended_by : (List ℕ → ℕ) → List QueryPair → List QueryPair → List (List ℕ)
appended_by count before [] = []
appended_by count before (pair ∷ rest) =
    let later = appended_by count (before ++ pair ∷ []) rest in
    if nat_le (count pair.key) (length (pairs_with pair.key before)) && not pair.replace_only then piece_of pair ∷ later
    else later
