-- The tag of a key, and the bucket that it falls into. No proof looks into the hash: equal keys have equal tags.
use Rattle.std.specs.Prelude.{ℕ, ◌*◌, ◌/◌, ◌%◌, ◌^◌, List, fold, bit_xor}

-- one byte more: the step of FNV-1a at 64 bits
unfoldable pub hash_step : ℕ → ℕ → ℕ
hash_step hash b = bit_xor hash b * 1099511628211 % 2 ^ 64

-- the high half of a product, in which every byte of the key shows
unfoldable pub hash_end : ℕ → ℕ
hash_end hash = hash * 11400714819323198485 % 2 ^ 64 / 2 ^ 32

abbrev pub hash_bytes : List ℕ → ℕ
hash_bytes key = fold hash_step 14695981039346656037 key

unfoldable pub tag_of : List ℕ → ℕ
tag_of key = hash_end (hash_bytes key)

-- a tag, scaled to the number of buckets
unfoldable pub bucket_of : ℕ → ℕ → ℕ
bucket_of buckets tag = tag * buckets / 2 ^ 32
