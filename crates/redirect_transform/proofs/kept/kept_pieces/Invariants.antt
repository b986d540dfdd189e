use Rattle.std.proofs.Common.{◌≡◌, map, filter, take}
use Rattle.form_urlencoded.specs.Form.{is_nonempty}
use Rattle.dnr_spec.specs.Transform as spec
use Rattle.redirect_transform.specs.Piece.{texts_of}
use Rattle.redirect_transform.proofs.kept.kept_pieces.Given as goal

abbrev pub invariant-loop-text : goal.invariant-loop-text
invariant-loop-text l =
    texts_of l.kept.items ≡ filter (spec.is_kept l.fn.removed) (filter is_nonempty (map (λ piece. piece.now) (take l.text-index l.text-items)))
