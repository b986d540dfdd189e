-- Hosts, their registrable domains, and who is third party.
use Rattle.std.specs.Prelude.{◌≡◌, ℕ, List, [], ◌∷◌, codes, false, true, Some, None, Ok, Err}
use Rattle.dnr_spec.specs.Domains.{covers}
use Rattle.dnr_spec.specs.Hosts.{is_ip_host}
use Rattle.dnr_spec.specs.Party.{is_third_party}
use Rattle.dnr_spec.specs.Suffixes.{SuffixRule, registrable, rules_of}
use Rattle.dnr_spec.specs.declared.suffix_refusal.SuffixRefusal.TheVariants.{BadRule}

-- The last label says whether a host is an address; `a.1` is one here.
abbrev pub AddressesHaveNoSubdomains : Type 0
AddressesHaveNoSubdomains =
    (is_ip_host (codes "[::1]") ≡ true) × (is_ip_host (codes "a.1") ≡ true) × (is_ip_host (codes "1.a") ≡ false)
    × (covers (codes "2.3.4") (codes "1.2.3.4") ≡ false) × (covers (codes "1.2.3.4") (codes "1.2.3.4") ≡ true)
    × (covers (codes "b.c") (codes "a.b.c") ≡ true) × (covers (codes "b.c") (codes "ab.c") ≡ false)

abbrev pub plain : List (List ℕ) → SuffixRule
plain labels = record { exception = false; labels = labels }

-- `com`, `co.uk`, `*.ck` and `!www.ck`
abbrev pub rules : List SuffixRule
rules =
    plain (codes "com" ∷ []) ∷ plain (codes "co" ∷ codes "uk" ∷ []) ∷ plain (codes "*" ∷ codes "ck" ∷ [])
    ∷ record { exception = true; labels = codes "www" ∷ codes "ck" ∷ [] } ∷ []

abbrev pub SuffixesAndOneLabelMore : Type 0
SuffixesAndOneLabelMore =
    (registrable rules (codes "x.a.com") ≡ Some (codes "a.com")) × (registrable rules (codes "com") ≡ None)
    × (registrable rules (codes "x.a.co.uk") ≡ Some (codes "a.co.uk")) × (registrable rules (codes "x.a.b.ck") ≡ Some (codes "a.b.ck"))
    × (registrable rules (codes "x.www.ck") ≡ Some (codes "www.ck")) × (registrable rules (codes "x.a.zz") ≡ Some (codes "a.zz"))
    × (registrable rules (codes "a.com.") ≡ Some (codes "a.com")) × (registrable rules (codes "1.2.3.4") ≡ None)

abbrev pub RulesOfALineEach : Type 0
RulesOfALineEach =
    (rules_of 1 (codes "// c" ∷ codes "Com x" ∷ [] ∷ codes "!www.ck" ∷ [])
    ≡ Ok (plain (codes "com" ∷ []) ∷ record { exception = true; labels = codes "www" ∷ codes "ck" ∷ [] } ∷ []))
    × (rules_of 1 (codes "com" ∷ codes "!ck" ∷ []) ≡ Err (BadRule 2))

abbrev pub PartiesByTheirDomains : Type 0
PartiesByTheirDomains =
    (is_third_party rules (codes "a.com") None ≡ true) × (is_third_party rules (codes "x.a.com") (Some (codes "y.a.com")) ≡ false)
    × (is_third_party rules (codes "a.co.uk") (Some (codes "b.co.uk")) ≡ true) × (is_third_party rules (codes "com") (Some (codes "com")) ≡ false)
    × (is_third_party rules (codes "1.2.3.4") (Some (codes "1.2.3.4")) ≡ false) × (is_third_party rules (codes "1.2.3.4") (Some (codes "5.2.3.4")) ≡ true)
