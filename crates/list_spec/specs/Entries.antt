-- The domains of a filter's option `domain=`.
use Rattle.std.specs.Prelude.{ℕ, List, map, length, Bool, not, ◌==◌, ◌&&◌, ◌||◌}
use Rattle.std.specs.List.{list_any}
use Rattle.std.specs.Char.{to_ascii_lowercase}
use Rattle.std.specs.Str.{bytes_eq}
use Rattle.list_spec.specs.declared.domain_entry.DomainEntry.{DomainEntry}
use Rattle.list_spec.specs.Pieces.{pieces_of, is_inverse, without_tilde}

-- an entry is a domain, or one that is excluded, behind a `~`
abbrev pub entry_of : List ℕ → DomainEntry
entry_of piece = record { domain = map to_ascii_lowercase (without_tilde piece); excluded = is_inverse piece }

-- entries stand between `|`
abbrev pub entries_of : List ℕ → List DomainEntry
entries_of value = map entry_of (pieces_of 124 value)

abbrev pub is_empty_entry : DomainEntry → Bool
is_empty_entry entry = length entry.domain == 0

-- the domain of this entry stands in the list without `~`, and with it
abbrev pub is_listed : List DomainEntry → List ℕ → Bool
is_listed entries domain = list_any (λ entry. not entry.excluded && bytes_eq entry.domain domain) entries

abbrev pub is_excluded : List DomainEntry → List ℕ → Bool
is_excluded entries domain = list_any (λ entry. entry.excluded && bytes_eq entry.domain domain) entries

-- one domain is listed and excluded
abbrev pub has_conflict : List DomainEntry → Bool
has_conflict entries = list_any (λ entry. not entry.excluded && is_excluded entries entry.domain) entries

-- each entry names a domain, and none is both listed and excluded
abbrev pub is_domain_list : List DomainEntry → Bool
is_domain_list entries = not (list_any is_empty_entry entries || has_conflict entries)
