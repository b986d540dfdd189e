-- What a table keeps: entries in the order of their tags and, where these agree, of their keys.
use Rattle.std.specs.Prelude.{ℕ, ◌≡◌, ◌+◌, ◌-◌, ◌<◌, ◌≤◌, List, ◌∷◌, length, map, slice_range, slice_index_or, Bool}
use Rattle.std.specs.List.Sorted.{IsSortedBy, IsNonDecreasingBy}
use Rattle.std.specs.Ordering.{nat_cmp, is_lt}
use Rattle.std.specs.Cmp.Lexicographic.{slice_cmp}
use Rattle.key_table.specs.declared.entry.Entry.{Entry}
use Rattle.key_table.specs.Hash.{tag_of}
use Rattle.key_table.specs.Pairs.{Pair}
use Rattle.key_table.specs.Cuts.{AreCuts}
use Rattle.key_table.specs.Marks.{AreMarked}

abbrev pub key_in : List ℕ → Entry → List ℕ
key_in texts entry = slice_range texts entry.at (entry.at + entry.len)

abbrev pub pair_in : List ℕ → Entry → Pair
pair_in texts entry = record { key = key_in texts entry; place = entry.place; needed = entry.needed }

abbrev pub pairs_in : List ℕ → List Entry → List Pair
pairs_in texts entries = map (pair_in texts) entries

abbrev pub tags_in : List Entry → List ℕ
tags_in entries = map (λ entry. entry.tag) entries

-- the key of the entry stands in the texts, and its tag is that of the key
pub record IsEntry (texts : List ℕ) (entry : Entry) : Type 0 where
  pub within : entry.at + entry.len ≤ length texts
  pub tag : entry.tag ≡ tag_of (key_in texts entry)

abbrev pub AreEntries : List ℕ → List Entry → Type 0
AreEntries texts entries = (k : ℕ) (entry : Entry) → k < length entries → IsEntry texts (slice_index_or entries k entry)

-- ---- the order

-- by what entries are sorted: the tag, then the key
abbrev pub rank_in : List ℕ → Entry → List ℕ
rank_in texts entry = entry.tag ∷ key_in texts entry

abbrev pub is_below : List ℕ → List ℕ → Bool
is_below rank other = is_lt (slice_cmp nat_cmp rank other)

-- no entry stands behind one that is above it
abbrev pub IsRising : List ℕ → List Entry → Type 0
IsRising texts entries = IsSortedBy (λ entry other. is_below (rank_in texts entry) (rank_in texts other)) entries

-- no entry stands behind one that has a higher tag
abbrev pub HasRisingTags : List Entry → Type 0
HasRisingTags entries = IsNonDecreasingBy (λ entry. entry.tag) entries

pub record IsKept (texts : List ℕ) (entries : List Entry) (starts : List ℕ) : Type 0 where
  pub all : AreEntries texts entries
  pub rising : IsRising texts entries
  pub cut : AreCuts (length starts - 1) (tags_in entries) starts

-- no key has more bytes
abbrev pub HaveAtMost : ℕ → List Entry → Type 0
HaveAtMost longest entries = (k : ℕ) (entry : Entry) → k < length entries → (slice_index_or entries k entry).len ≤ longest

-- the same with the marks of the keys, and how many bytes the longest has
pub record IsTable (texts : List ℕ) (entries : List Entry) (starts marks : List ℕ) (longest : ℕ) : Type 0 where
  pub kept : IsKept texts entries starts
  pub marked : AreMarked marks (tags_in entries)
  pub none_longer : HaveAtMost longest entries
