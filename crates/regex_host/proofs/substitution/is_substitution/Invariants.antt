use Rattle.std.proofs.Common.{◌≡◌, is_some, length}
use Rattle.dnr_spec.specs.Substitution.{pieces_of}
use Rattle.regex_host.proofs.substitution.is_substitution.Given as goal

abbrev pub invariant-loop-byte : goal.invariant-loop-byte
invariant-loop-byte l = is_some (pieces_of l.groups l.text) ≡ is_some (pieces_of l.groups l.rest)

abbrev pub decreases-loop-byte : goal.decreases-loop-byte
decreases-loop-byte l = length l.rest
