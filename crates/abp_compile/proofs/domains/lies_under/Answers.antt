use Rattle.std.proofs.Common.{◌≡◌, ◌∙◌, ◌∷◌, sym, not, false}
use Rattle.std.specs.Prelude.{nat_eq}
use Rattle.std.specs.List.{ends_with}
use Rattle.dnr_spec.specs.Hosts.{is_ip_host}
use Rattle.abp_compile.proofs.Under.{under, and_last_no}
use Rattle.abp_compile.proofs.domains.lies_under.Goals as goal

pub returns-else-is_subdomain : goal.returns-else-is_subdomain
returns-else-is_subdomain c =
    let other = c.args.other.now in
    let domain = c.args.domain.now in
    let no : ends_with nat_eq domain (46 ∷ other) ≡ false = cc (c.is_subdomain.ensures, c.if-is_subdomain.false, c.as_bytes.ensures.value, c.as_bytes-2.ensures.value) in
    c.if-is_subdomain.false ∙ sym (under other domain ∙ and_last_no (not (is_ip_host domain)) (ends_with nat_eq domain (46 ∷ other)) no)
