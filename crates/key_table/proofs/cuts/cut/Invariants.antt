use Rattle.std.proofs.Common.{length, ◌≤◌, ◌<◌, ◌-◌, ℕ, slice_index}
use Rattle.key_table.specs.Hash as spec
use Rattle.key_table.specs.Kept.{tags_in}
use Rattle.key_table.proofs.cuts.cut.Given as goal

abbrev pub invariant-loop-place : goal.invariant-loop-place
invariant-loop-place l = record {
  within : l.place ≤ length l.entries;
  before : (k : ℕ) → k < l.place → spec.bucket_of l.buckets (slice_index (tags_in l.entries) k) < l.bucket;
}

abbrev pub decreases-loop-place : goal.decreases-loop-place
decreases-loop-place l = length l.entries - l.place
