-- A set of the domains that are excluded.
use Rattle.std.specs.Prelude.{◌≡◌, ◌||◌, ◌&&◌, ℕ, List, String}
use Rattle.std.specs.Str.{bytes_eq}
use Rattle.std.specs.declared.alloc.Global.{Global}
use Rattle.std.specs.BTreeSet.{BTreeSet, contains_text}
use Rattle.list_spec.specs.declared.domain_entry.DomainEntry.{DomainEntry}
use Rattle.list_spec.specs.Entries.{is_excluded}

abbrev pub HasExcluded : BTreeSet (String Global) → List DomainEntry → Type 0
HasExcluded set entries = (domain : List ℕ) → contains_text set domain ≡ is_excluded entries domain

-- the new set has the domain of the entry too, if that is excluded
abbrev pub AddsEntry : BTreeSet (String Global) → BTreeSet (String Global) → DomainEntry → Type 0
AddsEntry old new entry = (domain : List ℕ) → contains_text new domain ≡ (contains_text old domain || (entry.excluded && bytes_eq entry.domain domain))
