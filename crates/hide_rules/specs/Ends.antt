-- Which lines are for the pages of a host, by the domains that cover it.
use Rattle.std.specs.Prelude.{ℕ, List, [], ◌∷◌, Bool, true, false, ◌==◌, Option, None, Some, unwrap_or, if◌then◌else◌}
use Rattle.dnr_spec.specs.Hosts.{is_ip_host}
use Rattle.list_spec.specs.declared.domain_entry.DomainEntry.{DomainEntry}
use Rattle.list_spec.specs.Entries.{is_listed, is_excluded}
use Rattle.list_spec.specs.Says.{lists_none}

-- what stands behind each dot, from the left
abbrev pub ends_behind : List ℕ → List (List ℕ)
ends_behind [] = []
ends_behind (b ∷ rest) = if b == 46 then rest ∷ ends_behind rest else ends_behind rest

-- the domains that cover a host, the longest first: the host, and unless it is an address what stands behind its dots
abbrev pub ends_of : List ℕ → List (List ℕ)
ends_of host = host ∷ (if is_ip_host host then [] else ends_behind host)

abbrev pub or_else : Option Bool → Option Bool → Option Bool
or_else None later = later
or_else (Some answer) later = Some answer

-- what entries say of a domain: that it is listed, or that it is excluded
abbrev pub said_at : List DomainEntry → List ℕ → Option Bool
said_at entries domain = if is_listed entries domain then Some true else (if is_excluded entries domain then Some false else None)

-- what they say of the first domain that they name
abbrev pub said : List DomainEntry → List (List ℕ) → Option Bool
said entries [] = None
said entries (domain ∷ domains) = or_else (said_at entries domain) (said entries domains)

-- a line with these entries is for pages that these domains cover
abbrev pub applies_by : List (List ℕ) → List DomainEntry → Bool
applies_by domains entries = unwrap_or (said entries domains) (lists_none entries)
