use Rattle.std.proofs.Common.{◌≡◌, string_bytes, take}
use Rattle.dnr_spec.specs.Transform as spec
use Rattle.redirect_transform.proofs.parts.encoded.Given as goal

abbrev pub invariant-loop-byte : goal.invariant-loop-byte
invariant-loop-byte l = string_bytes l.encoded ≡ spec.encoded (take l.byte-index l.byte-items)
