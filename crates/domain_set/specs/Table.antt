-- The places of a list's texts in ascending order, by which a text is found.
use Rattle.std.specs.Prelude.{ℕ, List, [], Bool, Option, Some, None, Box, Vec, map, get_or}
use Rattle.std.specs.List.{list_any}
use Rattle.std.specs.List.Sorted.{IsPermutation, IsSortedBy}
use Rattle.std.specs.Ordering.{nat_cmp, is_lt}
use Rattle.std.specs.Cmp.Lexicographic.{slice_cmp}
use Rattle.std.specs.Str.{bytes_eq}
use Rattle.std.specs.declared.alloc.Global.{Global}

-- a text of the list is this one
abbrev pub has_text : List (List ℕ) → List ℕ → Bool
has_text list text = list_any (λ entry. bytes_eq entry text) list

-- the text at a place, and an empty one at no place
abbrev pub text_at : List (List ℕ) → ℕ → List ℕ
text_at list place = get_or list place []

-- the texts at these places ascend
abbrev pub Ascend : List (List ℕ) → List ℕ → Type 0
Ascend list places = IsSortedBy (λ place other. is_lt (slice_cmp nat_cmp (text_at list place) (text_at list other))) places

-- the places of all texts, which ascend
pub record IsOrder (list : List (List ℕ)) (places : List ℕ) : Type 0 where
  pub all : IsPermutation list (map (text_at list) places)
  pub ascends : Ascend list places

abbrev pub IsTable : List (List ℕ) → Option (Box (Vec ℕ Global) Global) → Type 0
IsTable list None = Unit {0}
IsTable list (Some order) = IsOrder list order.value.items
