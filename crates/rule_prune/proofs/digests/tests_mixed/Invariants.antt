use Rattle.std.proofs.Common.{◌≡◌, take, fold}
use Rattle.rule_prune.specs.Digests as spec
use Rattle.rule_prune.proofs.digests.tests_mixed.Given as goal

abbrev pub invariant-loop-test : goal.invariant-loop-test
invariant-loop-test l = l.digest ≡ fold spec.test_mixed l.fn.so_far (take l.test-index l.tests)
