use Rattle.std.proofs.Common.{◌≡◌, length, ◌≤◌, ◌<◌, ℕ, slice_index}
use Rattle.key_table.specs.Hash as spec
use Rattle.key_table.specs.Cuts.{IsCut}
use Rattle.key_table.specs.Kept.{tags_in}
use Rattle.key_table.proofs.cuts.starts_of.Given as goal

abbrev pub invariant-loop-bucket : goal.invariant-loop-bucket
invariant-loop-bucket l = record {
  within : l.place ≤ length l.entries;
  before : (k : ℕ) → k < l.place → spec.bucket_of l.buckets (slice_index (tags_in l.entries) k) < l.bucket;
  count : length l.starts.items ≡ l.bucket;
  cuts : (b : ℕ) → b < l.bucket → IsCut l.buckets (tags_in l.entries) b (slice_index l.starts.items b);
}
