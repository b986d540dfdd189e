use Rattle.std.proofs.Common.{◌≡◌, ◌+◌, ◌∙◌, ap, sym, cond, take, slice_get, string_bytes}
use Rattle.std.specs.Option.{option_copied}
use Rattle.std.specs.Str.{bytes_eq}
use Rattle.dnr_spec.specs.Transform.{key_of, pairs_with, pieces_with}
use Rattle.redirect_transform.specs.Counter.{count_of}
use Rattle.redirect_transform.specs.Piece.{texts_of}
use Rattle.redirect_transform.proofs.Pieces.{replace_next, pieces_with-next}
use Rattle.redirect_transform.proofs.query.push_replaced.Goals as goal

pub loop-piece-preserved : goal.loop-piece-preserved
loop-piece-preserved c =
    let piece = c.piece-item.result in
    let i = c.loop-piece.piece-index in
    let pieces = c.args.pieces.now in
    let pairs = c.args.pairs.now in
    let front = texts_of (take i pieces) in
    let key : c.as_str-key.result.now ≡ key_of piece.text.now = c.as_str-key.ensures.value ∙ piece.decoded in
    let place : c.count.result ≡ pieces_with (key_of piece.text.now) front = c.count.ensures ∙ c.loop-piece.invariant.1 c.as_str-key.result.now ∙ ap (λ k. pieces_with k front) key in
    let found = c.pair_for-pair.ensures ∙ ap (λ k. slice_get (pairs_with k pairs) c.count.result) key ∙ ap (slice_get (pairs_with (key_of piece.text.now) pairs)) place in (
      replace_next pairs pieces i piece (option_copied c.pair_for-pair.result) (string_bytes c.args.query.now) (string_bytes c.loop-piece.query) _ c.loop-piece-test.true c.piece-item.is c.loop-piece.invariant.0 found c.in_ok-push_new.ensures,
      λ k. c.in_ok-add.ensures k ∙ ap (λ t. count_of c.loop-piece.counts k + cond (bytes_eq k t) 1 0) key ∙ ap (λ n. n + cond (bytes_eq k (key_of piece.text.now)) 1 0) (c.loop-piece.invariant.1 k) ∙ sym (pieces_with-next pieces i piece k c.loop-piece-test.true c.piece-item.is),
    )
