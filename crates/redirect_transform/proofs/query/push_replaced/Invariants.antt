use Rattle.std.proofs.Common.{◌≡◌, List, ℕ, [], string_bytes, take}
use Rattle.dnr_spec.specs.Transform as spec
use Rattle.redirect_transform.specs.Counter.{count_of}
use Rattle.redirect_transform.specs.Piece.{texts_of}
use Rattle.redirect_transform.specs.Written.{with_pieces}
use Rattle.redirect_transform.proofs.query.push_replaced.Given as goal

abbrev pub invariant-loop-piece : goal.invariant-loop-piece
invariant-loop-piece l =
    (string_bytes l.query ≡ with_pieces (string_bytes l.initial.query) (spec.all_replaced l.pairs [] (texts_of (take l.piece-index l.pieces))))
    × ((key : List ℕ) → count_of l.counts key ≡ spec.pieces_with key (texts_of (take l.piece-index l.pieces)))
