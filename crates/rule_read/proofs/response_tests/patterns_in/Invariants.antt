use Rattle.dnr_spec.specs.HeaderTests.{is_value_pattern}
use Rattle.std.proofs.Common.{ℕ, List}
use Rattle.rule_read.proofs.Making.{IsMadeSoFar}
use Rattle.rule_read.proofs.response_tests.patterns_in.Given as goal

abbrev pub invariant-loop-text : goal.invariant-loop-text
invariant-loop-text l = IsMadeSoFar is_value_pattern (λ (text : List ℕ). text) l.texts l.patterns.items l.text-index
