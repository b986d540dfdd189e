use Rattle.std.proofs.Common.{◌≡◌, List, ℕ, take, count_by}
use Rattle.std.specs.Str.{bytes_eq}
use Rattle.redirect_transform.specs.Counter.{count_of}
use Rattle.redirect_transform.proofs.counts.counted_keys.Given as goal

abbrev pub invariant-loop-pair : goal.invariant-loop-pair
invariant-loop-pair l = (key : List ℕ) → count_of l.counter key ≡ count_by (λ pair. bytes_eq key pair.key) (take l.pair-index l.pairs)
