use Rattle.std.proofs.Common.{◌≡◌, drop}
use Rattle.std.specs.Str.{bytes_eq}
use Rattle.dnr_spec.specs.Domains.{lower_case}
use Rattle.match_patterns.proofs.hosts.is_lowered.Given as goal

abbrev pub invariant-loop-byte : goal.invariant-loop-byte
invariant-loop-byte l = bytes_eq (lower_case l.text) l.lowered ≡ bytes_eq (lower_case (drop l.byte-index l.text)) l.rest
