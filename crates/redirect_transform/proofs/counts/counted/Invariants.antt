use Rattle.std.proofs.Common.{◌≡◌, List, ℕ, count_by, take}
use Rattle.std.specs.Str.{bytes_eq}
use Rattle.redirect_transform.specs.Counter.{count_of}
use Rattle.redirect_transform.proofs.counts.counted.Given as goal

abbrev pub invariant-loop-text : goal.invariant-loop-text
invariant-loop-text l = (text : List ℕ) → count_of l.counter text ≡ count_by (λ other. bytes_eq text other) (take l.text-index l.texts)
