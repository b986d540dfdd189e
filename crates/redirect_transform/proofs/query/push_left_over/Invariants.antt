use Rattle.std.proofs.Common.{◌≡◌, List, ℕ, [], string_bytes, take, count_by}
use Rattle.std.specs.Str.{bytes_eq}
use Rattle.redirect_transform.specs.Counter.{count_of}
use Rattle.redirect_transform.specs.Written.{with_pieces, appended_by}
use Rattle.redirect_transform.proofs.query.push_left_over.Given as goal

abbrev pub invariant-loop-pair : goal.invariant-loop-pair
invariant-loop-pair l =
    (string_bytes l.query ≡ with_pieces (string_bytes l.initial.query) (appended_by (count_of l.counts) [] (take l.pair-index l.pairs)))
    × ((key : List ℕ) → count_of l.before key ≡ count_by (λ pair. bytes_eq key pair.key) (take l.pair-index l.pairs))
