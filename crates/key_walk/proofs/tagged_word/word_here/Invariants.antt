use Rattle.std.proofs.Common.{◌≡◌, ◌≤◌, ◌-◌, ◌<◌, ℕ, length, take, slice_index, false}
use Rattle.index_spec.specs.Words.{ends_word}
use Rattle.key_table.specs.Hash.{hash_bytes}
use Rattle.key_table.specs.Pairs.{lower_case}
use Rattle.key_walk.proofs.tagged_word.word_here.Given as goal

abbrev pub invariant-loop-at : goal.invariant-loop-at
invariant-loop-at l = record {
  within : l.at ≤ length l.text;
  inside : (k : ℕ) → k < l.at → ends_word (slice_index l.text k) ≡ false;
  hash : l.hash ≡ hash_bytes (lower_case (take l.at l.text));
}

abbrev pub decreases-loop-at : goal.decreases-loop-at
decreases-loop-at l = length l.text - l.at
