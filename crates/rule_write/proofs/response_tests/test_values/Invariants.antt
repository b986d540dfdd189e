use Rattle.std.proofs.Common.{◌≡◌, map, take}
use Rattle.json_spec.specs.Written.{test_written}
use Rattle.serde_json.specs.View.{view}
use Rattle.rule_write.proofs.response_tests.test_values.Given as goal

abbrev pub invariant-loop-test : goal.invariant-loop-test
invariant-loop-test l = map view l.values.items ≡ map test_written (take l.test-index l.tests)
