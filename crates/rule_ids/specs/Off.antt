-- Lists of ids.
use Rattle.std.specs.Prelude.{◌≡◌, ◌<◌, ℕ, List, length, take, slice_index, false}
use Rattle.std.specs.List.Sorted.{IsNonDecreasing, IsPermutation}
use Rattle.rule_spec.specs.State.{has_number}

-- ids, and the same in their order
pub record AreOff (ids in_order : List ℕ) : Type 0 where
  pub same : IsPermutation ids in_order
  pub rising : IsNonDecreasing in_order

-- the two lists have the same ids
abbrev pub HaveSame : List ℕ → List ℕ → Type 0
HaveSame ids others = (id : ℕ) → has_number others id ≡ has_number ids id

-- no id stands twice
abbrev pub AreApart : List ℕ → Type 0
AreApart ids = (k : ℕ) → k < length ids → has_number (take k ids) (slice_index ids k) ≡ false
