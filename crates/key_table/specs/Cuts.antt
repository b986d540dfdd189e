-- Where the buckets of a list of tags begin that rise.
use Rattle.std.specs.Prelude.{ℕ, ◌≡◌, ◌+◌, ◌<◌, ◌≤◌, ◌^◌, List, length, slice_index}
use Rattle.key_table.specs.Hash.{bucket_of}

-- the tags before the place fall into earlier buckets, and those from it on do not
pub record IsCut (buckets : ℕ) (tags : List ℕ) (bucket place : ℕ) : Type 0 where
  pub within : place ≤ length tags
  pub before : (k : ℕ) → k < place → bucket_of buckets (slice_index tags k) < bucket
  pub behind : (k : ℕ) → place ≤ k → k < length tags → bucket ≤ bucket_of buckets (slice_index tags k)

-- each bucket begins at its start; the last start is the end of the list
pub record AreCuts (buckets : ℕ) (tags starts : List ℕ) : Type 0 where
  pub some : 0 < buckets
  pub few : buckets < 2 ^ 32
  pub count : length starts ≡ buckets + 1
  pub cuts : (bucket : ℕ) → bucket ≤ buckets → IsCut buckets tags bucket (slice_index starts bucket)
