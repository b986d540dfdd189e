-- What a set keeps: its list, of domains in lower case, and where the list is long the order of its texts.
use Rattle.std.specs.Prelude.{◌≡◌, ℕ, List, [], Option, Some, None, Ok, Box}
use Rattle.std.specs.declared.alloc.Global.{Global}
use Rattle.dnr_spec.specs.Domains.{domains_of}
use Rattle.domain_set.specs.Table.{IsTable}
use Rattle.domain_set.specs.declared.set.Kept.{Kept}

abbrev pub entries_of : Option (Box Kept Global) → List (List ℕ)
entries_of None = []
entries_of (Some kept) = kept.value.entries.items

abbrev pub IsKept : Option (Box Kept Global) → Type 0
IsKept None = Unit {0}
IsKept (Some kept) =
    IsTable kept.value.entries.items kept.value.order × (domains_of kept.value.entries.items ≡ Ok kept.value.entries.items)
