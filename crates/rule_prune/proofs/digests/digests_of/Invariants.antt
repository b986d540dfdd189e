use Rattle.std.proofs.Common.{◌≡◌, take}
use Rattle.rule_prune.specs.Digests as spec
use Rattle.rule_prune.proofs.digests.digests_of.Given as goal

abbrev pub invariant-loop-rule : goal.invariant-loop-rule
invariant-loop-rule l = l.digests.items ≡ spec.digests_of (take l.rule-index l.rules)
