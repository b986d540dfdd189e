-- What an index finds of the lines of a list.
use Rattle.std.specs.Prelude.{ℕ, List, [], ◌∷◌, ◌++◌, Bool, true, false, not, ◌&&◌, filter, String}
use Rattle.std.specs.BTreeSet.{BTreeSet, contains_text}
use Rattle.std.specs.declared.alloc.Global.{Global}
use Rattle.hide_spec.specs.HidingLine.{HidingLine}
use Rattle.hide_rules.specs.declared.index.Index.{Index}
use Rattle.hide_rules.specs.Listings.{Listings, FindsListed, FindsUnlisted, is_general, lines_at, places_at}
use Rattle.hide_rules.specs.Selectors.{HasSelectors}

-- the index finds these lines
pub record Indexes (lines : List HidingLine) (index : Index) : Type 0 where
  pub hidden : HasSelectors false [] (filter is_general lines) index.hidden
  pub kept : HasSelectors true [] (filter is_general lines) index.kept
  pub listed : FindsListed lines index.listings
  pub unlisted : FindsUnlisted lines index.unlisted.items

-- the lines that list one of these domains, one domain after another
abbrev pub listed_at : List HidingLine → Listings → List (List ℕ) → List HidingLine
listed_at lines listings [] = []
listed_at lines listings (domain ∷ domains) = lines_at lines (places_at listings domain) ++ listed_at lines listings domains

-- the lines with domains that may be for pages which these domains cover
abbrev pub found_for : List HidingLine → Index → List (List ℕ) → List HidingLine
found_for lines index domains = lines_at lines index.unlisted.items ++ listed_at lines index.listings domains

-- no exception keeps the selector
abbrev pub is_shown : Index → BTreeSet (String Global) → List ℕ → Bool
is_shown index kept selector = not (contains_text index.kept selector) && not (contains_text kept selector)
