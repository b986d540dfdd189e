-- The domains of a filter's option `domain=`, as rules can say them. A rule has one list of domains and one of
-- excluded domains, of which the latter goes first: Chrome's reference, `RuleCondition.initiatorDomains`. A filter goes
-- by the longest of its domains that covers the initiator: Adblock Plus, "How to write filters". The two say the same
-- unless a listed domain lies under an excluded one; then several rules say together what the filter says.
use Rattle.std.specs.Prelude.{ℕ, List, [], ◌∷◌, ◌++◌, map, filter, Bool, not, ◌&&◌, Option, Some, None}
use Rattle.std.specs.List.{list_any}
use Rattle.std.specs.Str.{bytes_eq}
use Rattle.dnr_spec.specs.Domains.{covers}
use Rattle.list_spec.specs.declared.domain_entry.DomainEntry.{DomainEntry}

-- ---- the domains of a filter

-- a domain that is repeated counts once, at its first place
abbrev pub each_once : List (List ℕ) → List (List ℕ)
each_once [] = []
each_once (domain ∷ domains) = domain ∷ filter (λ other. not (bytes_eq other domain)) (each_once domains)

-- the domains without `~`, and those with it, in the order of the filter
abbrev pub listed_in : List DomainEntry → List (List ℕ)
listed_in entries = each_once (map (λ entry. entry.domain) (filter (λ entry. not entry.excluded) entries))

abbrev pub excluded_in : List DomainEntry → List (List ℕ)
excluded_in entries = each_once (map (λ entry. entry.domain) (filter (λ entry. entry.excluded) entries))

-- ---- domains under others

-- the other domain covers this one, and is not the same
abbrev pub lies_under : List ℕ → List ℕ → Bool
lies_under other domain = not (bytes_eq domain other) && covers other domain

abbrev pub lies_under_some : List (List ℕ) → List ℕ → Bool
lies_under_some others domain = list_any (λ other. lies_under other domain) others

abbrev pub those_under : List ℕ → List (List ℕ) → List (List ℕ)
those_under other domains = filter (lies_under other) domains

-- of the listed domains those under an excluded one, and the others
abbrev pub nested : List (List ℕ) → List (List ℕ) → List (List ℕ)
nested excluded listed = filter (lies_under_some excluded) listed

abbrev pub not_nested : List (List ℕ) → List (List ℕ) → List (List ℕ)
not_nested excluded listed = filter (λ domain. not (lies_under_some excluded domain)) listed

-- ---- what rules say

-- the initiators of one rule: those of its list, or all where it has none, but for those that it excludes
pub record Initiators : Type 0 where
  pub among : Option (List (List ℕ))
  pub not_among : List (List ℕ)

-- a list of domains, or none where nothing is listed
abbrev pub list_if_any : List (List ℕ) → Option (List (List ℕ))
list_if_any [] = None
list_if_any (domain ∷ domains) = Some (domain ∷ domains)

-- where nothing is nested one rule says it all
abbrev pub in_one : List (List ℕ) → List (List ℕ) → Initiators
in_one excluded listed = record { among = list_if_any listed; not_among = excluded }

-- else the domains that are not nested share a rule, which excludes every excluded domain; there is none without them
abbrev pub shared : List (List ℕ) → List (List ℕ) → List Initiators
shared excluded [] = []
shared excluded (domain ∷ domains) = record { among = Some (domain ∷ domains); not_among = excluded } ∷ []

-- and each nested domain has a rule of its own, which excludes the excluded domains under it
abbrev pub single : List (List ℕ) → List ℕ → Initiators
single excluded domain = record { among = Some (domain ∷ []); not_among = those_under domain excluded }

abbrev pub in_several : List (List ℕ) → List (List ℕ) → List (List ℕ) → List Initiators
in_several excluded listed [] = in_one excluded listed ∷ []
in_several excluded listed (domain ∷ domains) =
    shared excluded (not_nested excluded listed) ++ map (single excluded) (domain ∷ domains)

-- the initiators of the rules that a filter with these domains gives for each of its effects
abbrev pub initiators_of : List DomainEntry → List Initiators
initiators_of entries =
    in_several (excluded_in entries) (listed_in entries) (nested (excluded_in entries) (listed_in entries))
