use Rattle.std.proofs.Common.{◌≡◌, ◌<◌, ℕ, length, slice_index, true}
use Rattle.key_table.specs.Kept.{tags_in}
use Rattle.key_table.specs.Marks.{is_marked}
use Rattle.key_table.proofs.marks.marks_of.Given as goal

abbrev pub invariant-loop-entry : goal.invariant-loop-entry
invariant-loop-entry l = record {
  count : length l.marks.items ≡ l.buckets;
  marked : (k : ℕ) → k < l.entry-index → is_marked l.marks.items (slice_index (tags_in l.entries) k) ≡ true;
}
