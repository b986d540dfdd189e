use Rattle.std.proofs.Common.{◌≡◌, ◌∙◌, ap, sym}
use Rattle.redirect_transform.specs.Counter.{count_of}
use Rattle.redirect_transform.specs.Piece.{texts_of}
use Rattle.redirect_transform.proofs.Pieces.{changed}
use Rattle.redirect_transform.proofs.query.changed_query.Goals as goal

pub returns : goal.returns
returns c =
    changed c.args.changes.now c.args.query.now c.as_slice.result.now (texts_of c.as_slice-2.result.now) c.as_slice-pairs.result.now (count_of c.in_ok-counts.counts) _ _ _
    c.as_slice.ensures c.as_slice-pairs.ensures (ap texts_of c.as_slice-2.ensures.value ∙ c.in_ok-pieces.ensures) c.new-text.ensures.bytes c.in_ok-counts.ensures.query c.in_ok-push_left_over.ensures c.in_ok-counts.ensures.counts
