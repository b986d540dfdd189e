use Rattle.std.proofs.Common.{◌≡◌, ◌++◌, drop, false}
use Rattle.dnr_spec.specs.HeaderTests.{pieces_from}
use Rattle.header_tests.proofs.words.pieces_of.Given as goal

abbrev pub invariant-loop-byte : goal.invariant-loop-byte
invariant-loop-byte l = pieces_from false l.text ≡ l.pieces.items ++ pieces_from l.escaped (drop l.byte-index l.text)
