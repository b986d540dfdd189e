-- Which words of a list stood in it before, and a set of those that were met.
use Rattle.std.specs.Prelude.{◌≡◌, ℕ, List, [], ◌∷◌, ◌++◌, Bool}
use Rattle.std.specs.declared.alloc.Global.{Global}
use Rattle.std.specs.declared.cmp.Ordering.{Ordering}
use Rattle.std.specs.declared.vec.Vec.{Vec}
use Rattle.std.specs.BTreeSet.{BTreeSet, contains}
use Rattle.std.specs.Cmp.Lexicographic.{slice_cmp}
use Rattle.std.specs.List.{list_any}
use Rattle.std.specs.Ordering.{nat_cmp}
use Rattle.std.specs.Str.{bytes_eq}
use Rattle.dnr_spec.specs.Domains.{lower_case}
use Rattle.index_spec.specs.Words.{has_word}

-- whether each is one of those before it, in whatever case; these stand before the first
abbrev pub repeats_behind : List (List ℕ) → List (List ℕ) → List Bool
repeats_behind before [] = []
repeats_behind before (word ∷ words) = has_word before word ∷ repeats_behind (before ++ word ∷ []) words

abbrev pub repeats_in : List (List ℕ) → List Bool
repeats_in words = repeats_behind [] words

abbrev pub Key : Type 0
Key = Vec ℕ Global

abbrev pub key_cmp : Key → Key → Ordering
key_cmp one other = slice_cmp nat_cmp one.items other.items

-- the set has these words in lower case, and no others
abbrev pub HasMet : BTreeSet Key → List (List ℕ) → Type 0
HasMet met words = (key : Key) → contains key_cmp met key ≡ list_any (λ word. bytes_eq (lower_case word) key.items) words
