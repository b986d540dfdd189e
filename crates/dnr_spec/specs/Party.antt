-- Whether a request is third party: Chrome's reference, `RuleCondition.domainType`.
use Rattle.std.specs.Prelude.{ℕ, List, Bool, true, false, not, ◌||◌, Option, Some, None}
use Rattle.std.specs.Str.{bytes_eq}
use Rattle.dnr_spec.specs.Suffixes.{SuffixRule, registrable}

-- both hosts have a registrable domain, and these are equal
abbrev pub same_domain : Option (List ℕ) → Option (List ℕ) → Bool
same_domain None other = false
same_domain (Some domain) None = false
same_domain (Some domain) (Some other) = bytes_eq domain other

-- the hosts belong to one party
abbrev pub same_party : List SuffixRule → List ℕ → List ℕ → Bool
same_party rules host initiator =
    bytes_eq host initiator || same_domain (registrable rules host) (registrable rules initiator)

-- a request without initiator is third party
abbrev pub is_third_party : List SuffixRule → List ℕ → Option (List ℕ) → Bool
is_third_party rules host None = true
is_third_party rules host (Some initiator) = not (same_party rules host initiator)
