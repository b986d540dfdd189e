use Rattle.std.proofs.Common.{◌≡◌, ◌<◌, ℕ, length, get_or}
use Rattle.wildcard.proofs.noted.clear.Given as goal

abbrev pub invariant-loop-place : goal.invariant-loop-place
invariant-loop-place l = record {
  size : length l.words ≡ length l.fn.words;
  none : (k : ℕ) → k < l.place → get_or l.words k 0 ≡ 0;
}
