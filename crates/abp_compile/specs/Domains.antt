-- The domains of a filter's entries, entry by entry.
use Rattle.std.specs.Prelude.{◌≡◌, ℕ, List, [], ◌∷◌, ◌++◌, Bool, true, false, if◌then◌else◌, String}
use Rattle.std.specs.BTreeSet.{BTreeSet, contains_text}
use Rattle.std.specs.declared.alloc.Global.{Global}
use Rattle.list_spec.specs.declared.domain_entry.DomainEntry.{DomainEntry}
use Rattle.compile_spec.specs.Initiators.{listed_in, excluded_in}
use Rattle.domain_set.specs.Table.{has_text}

-- the domains of the entries that are excluded, or of those that are not
abbrev pub these_in : Bool → List DomainEntry → List (List ℕ)
these_in true entries = excluded_in entries
these_in false entries = listed_in entries

-- one domain more, unless it is there
abbrev pub with_domain : List (List ℕ) → List ℕ → List (List ℕ)
with_domain kept domain = if has_text kept domain then kept else kept ++ domain ∷ []

-- that of the entry, if it is excluded as is asked
abbrev pub with_entry : Bool → List (List ℕ) → DomainEntry → List (List ℕ)
with_entry true kept entry = if entry.excluded then with_domain kept entry.domain else kept
with_entry false kept entry = if entry.excluded then kept else with_domain kept entry.domain

-- the table has the texts of the list and no others
abbrev pub HasTexts : BTreeSet (String Global) → List (List ℕ) → Type 0
HasTexts table list = (text : List ℕ) → contains_text table text ≡ has_text list text
