-- What is read of the domains of a line.
use Rattle.std.specs.Prelude.{◌≡◌, List, Bool, true, false, Option, None, Some, Vec}
use Rattle.std.specs.List.{list_all}
use Rattle.std.specs.declared.alloc.Global.{Global}
use Rattle.dnr_spec.specs.Domains.{is_domain}
use Rattle.list_spec.specs.declared.domain_entry.DomainEntry.{DomainEntry}

abbrev pub names_domain : DomainEntry → Bool
names_domain entry = is_domain entry.domain

-- the entry, if it names a domain
abbrev pub IsEntryOf : DomainEntry → Option DomainEntry → Type 0
IsEntryOf entry None = names_domain entry ≡ false
IsEntryOf entry (Some read) = (read ≡ entry) × (names_domain entry ≡ true)

-- the entries, if each names a domain
abbrev pub AreEntriesOf : List DomainEntry → Option (Vec DomainEntry Global) → Type 0
AreEntriesOf entries None = list_all names_domain entries ≡ false
AreEntriesOf entries (Some read) = (read.items ≡ entries) × (list_all names_domain entries ≡ true)
