use Rattle.std.proofs.Common.{◌∙◌}
use Rattle.dnr_spec.specs.HeaderTests.{fits_some}
use Rattle.header_tests.proofs.Values.{any_value}
use Rattle.header_tests.proofs.header_test.has_fitting.Goals as goal

pub returns : goal.returns
returns c = c.any_is_fitting.ensures ∙ any_value (fits_some c.args.patterns.now) c.args.name.now c.args.headers.now
