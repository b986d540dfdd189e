-- Lists of domains, and the hosts that they cover: Chrome's reference, `RuleCondition.initiatorDomains`
-- and `requestDomains`. Letters of entries are read in lower case.
use Rattle.std.specs.Prelude.{ℕ, ◌-◌, List, ◌∷◌, length, map, position, slice_index, slice_range, Bool, not, ◌==◌, ◌&&◌, ◌||◌, nat_lt, nat_le, nat_eq, Option, Some, None, Result, Ok, Err}
use Rattle.std.specs.List.{list_all, list_any, ends_with}
use Rattle.std.specs.Str.{bytes_eq}
use Rattle.std.specs.Char.{is_ascii_alphanumeric, is_ascii_hexdigit, to_ascii_lowercase}
use Rattle.dnr_spec.specs.Hosts.{labels_of, is_ip_host}
use Rattle.dnr_spec.specs.declared.domain_refusal.DomainRefusal.{DomainRefusal}
use Rattle.dnr_spec.specs.declared.domain_refusal.DomainRefusal.TheVariants.{BadDomain}

-- ---- which texts are domains

-- an ASCII letter, a digit, `-` or `_`
abbrev pub is_label_byte : ℕ → Bool
is_label_byte b = is_ascii_alphanumeric b || b == 45 || b == 95

abbrev pub is_label : List ℕ → Bool
is_label label = nat_lt 0 (length label) && list_all is_label_byte label

-- labels with a dot between each two
abbrev pub is_name : List ℕ → Bool
is_name text = list_all is_label (labels_of text)

-- a hexadecimal digit, `:` or `.`
abbrev pub is_address_byte : ℕ → Bool
is_address_byte b = is_ascii_hexdigit b || b == 58 || b == 46

-- an address between brackets, of which only the bytes are tested
abbrev pub is_address : List ℕ → Bool
is_address text =
    nat_le 2 (length text) && slice_index text 0 == 91 && slice_index text (length text - 1) == 93
    && list_all is_address_byte (slice_range text 1 (length text - 1))

abbrev pub is_domain : List ℕ → Bool
is_domain text = is_address text || is_name text

-- ---- what a list is read as

abbrev pub lower_case : List ℕ → List ℕ
lower_case text = map to_ascii_lowercase text

-- the entries in lower case, unless one is at fault
abbrev pub unless_bad : List (List ℕ) → Option ℕ → Result (List (List ℕ)) DomainRefusal
unless_bad list None = Ok (map lower_case list)
unless_bad list (Some place) = Err (BadDomain place)

-- the entries in lower case, in their order and with their repeats, or the place of the first that is no domain
abbrev pub domains_of : List (List ℕ) → Result (List (List ℕ)) DomainRefusal
domains_of list = unless_bad list (position (λ entry. not (is_domain entry)) list)

-- ---- what an entry covers

-- an entry covers the host that equals it, and its subdomains; an IP host has none
abbrev pub covers : List ℕ → List ℕ → Bool
covers entry host = bytes_eq entry host || (not (is_ip_host host) && ends_with nat_eq host (46 ∷ entry))

-- an entry of the list covers the host
abbrev pub covers_some : List (List ℕ) → List ℕ → Bool
covers_some list host = list_any (λ entry. covers entry host) list
