-- Why a list gives no set: an entry is no domain, or all are domains and memory ran out.
use Rattle.std.specs.Prelude.{◌≡◌, ℕ, List, map, Ok, Err}
use Rattle.dnr_spec.specs.Domains.{domains_of, lower_case}
use Rattle.dnr_spec.specs.declared.domain_refusal.DomainRefusal.{DomainRefusal}
use Rattle.dnr_spec.specs.declared.domain_refusal.DomainRefusal.TheVariants.{BadDomain, NoMemory}

abbrev pub IsRefused : List (List ℕ) → DomainRefusal → Type 0
IsRefused list (BadDomain place) = domains_of list ≡ Err (BadDomain place)
IsRefused list NoMemory = domains_of list ≡ Ok (map lower_case list)
