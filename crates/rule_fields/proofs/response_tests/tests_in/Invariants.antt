use Rattle.json_spec.specs.RuleFields as form
use Rattle.json_spec.proofs.Each.{IsReadSoFar}
use Rattle.rule_fields.proofs.response_tests.tests_in.Given as goal

abbrev pub invariant-loop-value : goal.invariant-loop-value
invariant-loop-value l = IsReadSoFar form.as_header_test l.values l.tests.items l.value-index
