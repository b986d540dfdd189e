use Rattle.std.proofs.Common.{◌≡◌, drop, false}
use Rattle.dnr_spec.specs.HeaderTests.{escapes_well}
use Rattle.header_tests.proofs.words.escapes_well.Given as goal

abbrev pub invariant-loop-byte : goal.invariant-loop-byte
invariant-loop-byte l = escapes_well false l.text ≡ escapes_well l.escaped (drop l.byte-index l.text)
