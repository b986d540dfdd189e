use Rattle.std.proofs.Common.{◌≡◌, ◌∙◌, Bor, ℕ, List, [], ◌++◌, ap, sym, get_or, count_by, append-nil}
use Rattle.std.specs.Str.{bytes_eq}
use Rattle.dnr_spec.specs.Transform.{key_of}
use Rattle.redirect_transform.specs.Piece.{texts_of}
use Rattle.redirect_transform.specs.Counter.{count_of}
use Rattle.redirect_transform.proofs.KeptPieces.{kept_next, empty_text, kept_text, removed_text, texts_push}
use Rattle.redirect_transform.proofs.kept.kept_pieces.Goals as goal
use Rattle.redirect_transform.proofs.kept.kept_pieces.Goals.{then-not-is_empty+in_ok-piece+then-count-eq0+in_ok-push, then-not-is_empty+in_ok-piece+else-count-eq0, else-not-is_empty}

-- what `get_or` reads past the end of the pieces
abbrev no_piece : Bor (List ℕ)
no_piece = record { ref_ptr = (0, 0); now = [] }

pub loop-text-preserved : goal.loop-text-preserved
loop-text-preserved c =
    let items = c.deref-text-items.result.now in
    let i = c.loop-text.text-index in
    let text = (get_or items i no_piece).now in
    let removed = c.args.removed.now in
    let old = texts_of c.loop-text.kept.items in
    kept_next removed items i no_piece old _ c.loop-text-test.true c.loop-text.invariant
    (elim c.if-not-is_empty.branch [
      | then-not-is_empty+in_ok-piece+then-count-eq0+in_ok-push w ↦
          let key : w.as_str.result.now ≡ key_of text = w.as_str.ensures.value ∙ w.in_ok-piece.piece.decoded ∙ ap key_of w.in_ok-piece.ensures in
          let counted : w.count.result ≡ count_by (λ other. bytes_eq (key_of text) other) removed = w.count.ensures ∙ ap (count_of c.in_ok-removed.removed) key ∙ c.in_ok-removed.ensures (key_of text) in
          ap (λ k. texts_of k.items) w.kept-is
          ∙ texts_push c.loop-text.kept.items w.push.new.self.items w.in_ok-piece.piece text w.in_ok-push.ensures.items w.in_ok-piece.ensures
          ∙ ap (λ l. old ++ l) (sym (kept_text removed text c.is_empty.result w.count.result c.is_empty.ensures w.if-not-is_empty.true counted w.if-count-eq0.true))
      | then-not-is_empty+in_ok-piece+else-count-eq0 w ↦
          let key : w.as_str.result.now ≡ key_of text = w.as_str.ensures.value ∙ w.in_ok-piece.piece.decoded ∙ ap key_of w.in_ok-piece.ensures in
          let counted : w.count.result ≡ count_by (λ other. bytes_eq (key_of text) other) removed = w.count.ensures ∙ ap (count_of c.in_ok-removed.removed) key ∙ c.in_ok-removed.ensures (key_of text) in
          ap (λ k. texts_of k.items) w.kept-is ∙ sym (append-nil old)
          ∙ ap (λ l. old ++ l) (sym (removed_text removed text c.is_empty.result w.count.result c.is_empty.ensures w.if-not-is_empty.true counted w.if-count-eq0.false))
      | else-not-is_empty w ↦
          ap (λ k. texts_of k.items) w.kept-is ∙ sym (append-nil old)
          ∙ ap (λ l. old ++ l) (sym (empty_text removed text c.is_empty.result c.is_empty.ensures w.if-not-is_empty.false))
    ])
