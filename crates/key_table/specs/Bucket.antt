-- Entries among which all stand that have a key.
use Rattle.std.specs.Prelude.{ℕ, ◌≡◌, ◌<◌, List, length, slice_index_or, true, Option}
use Rattle.key_table.specs.declared.entry.Entry.{Entry}
use Rattle.key_table.specs.declared.bucket.Bucket.{Bucket}
use Rattle.key_table.specs.Kept.{key_in, pairs_in, AreEntries}
use Rattle.key_table.specs.Pairs.{near_of}

-- all of the entries have the key
abbrev pub HaveKey : List ℕ → List ℕ → List Entry → Type 0
HaveKey texts key entries = (k : ℕ) (entry : Entry) → k < length entries → key_in texts (slice_index_or entries k entry) ≡ key

pub record IsBucket (texts key : List ℕ) (bucket : Bucket) : Type 0 where
  pub all : AreEntries texts bucket.entries.now
  pub sure : bucket.sure ≡ true → HaveKey texts key bucket.entries.now

-- those of the key are all in the bucket
pub record IsBucketOf (texts key : List ℕ) (entries : List Entry) (bucket : Bucket) : Type 0 where
  pub is : IsBucket texts key bucket
  pub places : (shown : Option ℕ) → near_of key shown (pairs_in texts bucket.entries.now) ≡ near_of key shown (pairs_in texts entries)
