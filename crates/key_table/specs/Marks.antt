-- Marks of the keys of a table: a byte for each bucket, in which a bit is set for each tag that falls there. A key whose
-- bit is not set is not in the table.
use Rattle.std.specs.Prelude.{ℕ, ◌≡◌, ◌%◌, ◌^◌, ◌<◌, List, length, slice_index, slice_set, bit_or, ◌==◌, Bool, true}
use Rattle.key_table.specs.Hash.{bucket_of}

abbrev pub mark_of : ℕ → ℕ
mark_of tag = 2 ^ (tag % 8)

-- the tag's bit is set in the byte of its bucket
abbrev pub is_marked : List ℕ → ℕ → Bool
is_marked marks tag =
    bit_or (slice_index marks (bucket_of (length marks) tag)) (mark_of tag) == slice_index marks (bucket_of (length marks) tag)

-- the marks with that of one tag more
abbrev pub with_mark : List ℕ → ℕ → List ℕ
with_mark marks tag =
    slice_set marks (bucket_of (length marks) tag) (bit_or (slice_index marks (bucket_of (length marks) tag)) (mark_of tag))

-- each of the tags is marked
pub record AreMarked (marks tags : List ℕ) : Type 0 where
  pub some : 0 < length marks
  pub few : length marks < 2 ^ 32
  pub all : (k : ℕ) → k < length tags → is_marked marks (slice_index tags k) ≡ true
