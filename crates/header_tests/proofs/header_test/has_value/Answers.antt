use Rattle.std.proofs.Common.{◌∙◌}
use Rattle.header_tests.proofs.Values as values
use Rattle.header_tests.proofs.header_test.has_value.Goals as goal

pub returns : goal.returns
returns c = c.any_is_named.ensures ∙ values.has_value c.args.name.now c.args.headers.now
