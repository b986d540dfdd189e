use Rattle.std.proofs.Common.{◌≡◌, drop}
use Rattle.dnr_spec.specs.Domains.{is_name}
use Rattle.domain_set.proofs.Labels.{is_rest}
use Rattle.domain_set.proofs.domain.is_name.Given as goal

abbrev pub invariant-loop-byte : goal.invariant-loop-byte
invariant-loop-byte l = is_name l.text ≡ is_rest l.begun (drop l.byte-index l.text)
