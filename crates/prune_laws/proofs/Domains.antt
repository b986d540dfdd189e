-- Plain domains in the texts of patterns, as the laws of filter lists know them.
use Rattle.std.proofs.Common.{◌≡◌, ℕ, ◌-◌, List, [], ◌∷◌, ◌++◌, length, drop, true, false, Some, sym, ap, ◌∙◌, arith, length-append}
use Rattle.std.specs.Prelude.{codes, nat_eq}
use Rattle.std.specs.List.{starts_with, ends_with}
use Rattle.std.proofs.lemmas.Bool.{or_from}
use Rattle.std.proofs.lemmas.Slice.Eq.{bytes_eq-Decides}
use Rattle.dnr_spec.specs.Hosts.{labels_of, is_ip_host, ends_in_number}
use Rattle.plain_domains.specs.PlainDomains.{plain_domain}
use Rattle.list_spec.specs.LineKind.{FilterPattern, every_url, plain, regex}
use Rattle.compile_laws.proofs.Covered.{drop_front}
use Rattle.compile_laws.proofs.Fitting.{name_unbracketed, no_number}
use Rattle.compile_laws.proofs.Plain.{IsPlain}
use Rattle.compile_laws.proofs.Plain as filters

-- ---- the pattern of a plain domain

abbrev text_in : FilterPattern → List ℕ
text_in every_url = []
text_in (plain text) = text
text_in (regex text) = text

pub record HasDomain (text domain : List ℕ) : Type 0 where
  pub is : text ≡ codes "||" ++ domain ++ codes "^"
  pub plain : IsPlain domain

pub has_domain : (text domain : List ℕ) → plain_domain text ≡ Some domain → HasDomain text domain
has_domain text domain h =
    let there = filters.has_domain (plain text) domain h in
    record { is = ap text_in there.is; plain = there.plain }

-- ---- what lies under a plain domain

pub ends_so : (entry host front : List ℕ) → host ≡ front ++ 46 ∷ entry → ends_with nat_eq host (46 ∷ entry) ≡ true
ends_so entry host front e =
    let n : length host - length (46 ∷ entry) ≡ length front = omega (arith, ap length e, length-append front (46 ∷ entry)) in
    let end : 46 ∷ entry ≡ drop (length host - length (46 ∷ entry)) host = sym (ap (λ (k : ℕ). drop k host) n ∙ ap (drop (length front)) e ∙ drop_front front (46 ∷ entry)) in
    (bytes_eq-Decides (46 ∷ entry) (drop (length host - length (46 ∷ entry)) host)).1 end

-- a plain domain is no address
pub no_address : (domain : List ℕ) → IsPlain domain → is_ip_host domain ≡ false
no_address domain is =
    or_from (starts_with nat_eq domain (codes "[")) (ends_in_number (labels_of domain)) (name_unbracketed domain is.bytes) (no_number (labels_of domain) is.letters)
