use Rattle.std.proofs.Common.{◌∙◌, false, ap}
use Rattle.dnr_spec.specs.HeaderTests.{pieces_from}
use Rattle.header_tests.proofs.Escapes.{is_read}
use Rattle.header_tests.proofs.value_pattern.ValuePattern.build.Goals as goal

pub invariant_of-result : goal.invariant_of-result
invariant_of-result c =
    rw c.in_ok-text.ensures.ok (is_read _ _ c.requires (c.in_ok-pieces.ensures ∙ ap (pieces_from false) c.as_bytes.ensures.value))
