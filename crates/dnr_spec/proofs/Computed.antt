-- The examples are computed.
use Rattle.std.specs.Prelude.{refl}
use Rattle.url.proofs.OnLiterals.{url_on_literals}
use Rattle.dnr_spec.specs.Examples.{HostStandsInTheAuthority, HostIsInAscii, PathIsNoHost, EachRefusalOfAUrl, SeparatorFitsTheEnd, DomainAnchorStaysInTheHost, AnchorsAlone}

pub host_stands_in_the_authority : HostStandsInTheAuthority
unfolding url_on_literals
host_stands_in_the_authority = (refl, refl, refl, refl, refl)

pub host_is_in_ascii : HostIsInAscii
unfolding url_on_literals
host_is_in_ascii = refl

pub path_is_no_host : PathIsNoHost
unfolding url_on_literals
path_is_no_host = (refl, refl, refl)

pub each_refusal_of_a_url : EachRefusalOfAUrl
unfolding url_on_literals
each_refusal_of_a_url = (refl, refl, refl, refl)

pub separator_fits_the_end : SeparatorFitsTheEnd
separator_fits_the_end = (refl, refl, refl, refl)

pub domain_anchor_stays_in_the_host : DomainAnchorStaysInTheHost
domain_anchor_stays_in_the_host = (refl, refl, refl, refl, refl, refl, refl)

pub anchors_alone : AnchorsAlone
anchors_alone = (refl, refl, refl, refl, refl)
