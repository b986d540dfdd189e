-- Two sets of selectors, merged.
use Rattle.std.specs.Prelude.{◌≡◌, ℕ, List, Bool, ◌&&◌, ◌||◌, String}
use Rattle.std.specs.BTreeSet.{BTreeSet, contains_text}
use Rattle.std.specs.Cmp.Lexicographic.{slice_cmp}
use Rattle.std.specs.List.{list_any}
use Rattle.std.specs.List.Sorted.{IsStrictlySortedBy}
use Rattle.std.specs.Ordering.{nat_cmp}
use Rattle.std.specs.Str.{bytes_eq}
use Rattle.std.specs.declared.alloc.Global.{Global}
use Rattle.std.specs.declared.cmp.Ordering.{Ordering}

abbrev pub text_cmp : List ℕ → List ℕ → Ordering
text_cmp = slice_cmp nat_cmp

-- in ascending order of their bytes, each once
abbrev pub Ascends : List (List ℕ) → Type 0
Ascends texts = IsStrictlySortedBy text_cmp texts

-- the texts are those of either set that are shown
pub record IsMerged (is_shown : List ℕ → Bool) (first second : BTreeSet (String Global)) (texts : List (List ℕ)) : Type 0 where
  pub ascends : Ascends texts
  pub members : (text : List ℕ) → list_any (bytes_eq text) texts ≡ (is_shown text && (contains_text first text || contains_text second text))
