use Rattle.std.proofs.Common.{◌≡◌, sym, length, arith}
use Rattle.dnr_spec.specs.Domains.{lower_case}
use Rattle.std.proofs.lemmas.List.{length-map}
use Rattle.std.specs.Char.{to_ascii_lowercase}
use Rattle.match_patterns.proofs.Places.{ends_with_no_longer}
use Rattle.match_patterns.proofs.hosts.is_subdomain.Goals as goal

pub returns-then-host-domain : goal.returns-then-host-domain
returns-then-host-domain c =
    let same : length (lower_case c.args.domain.now) ≡ length c.args.domain.now = length-map c.args.domain.now to_ascii_lowercase in
    let short = c.if-host-domain.true in
    sym (ends_with_no_longer (lower_case c.args.domain.now) c.args.host.now (omega (arith, same, short)))
