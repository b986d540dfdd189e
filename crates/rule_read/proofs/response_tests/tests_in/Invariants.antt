use Rattle.dnr_spec.specs.HeaderTests.{is_header_test, in_lower_case}
use Rattle.rule_read.proofs.Making.{IsMadeSoFar}
use Rattle.rule_read.proofs.response_tests.tests_in.Given as goal

abbrev pub invariant-loop-test : goal.invariant-loop-test
invariant-loop-test l = IsMadeSoFar is_header_test in_lower_case l.tests l.read.items l.test-index
