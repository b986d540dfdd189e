use Rattle.std.proofs.Common.{◌≡◌}
use Rattle.rule_prune.specs.Digests.{digests_of}
use Rattle.rule_prune.specs.Filters.{AreListedBelow}
use Rattle.rule_prune.proofs.filters.Filters.of.Given as goal

abbrev pub invariant-loop-place : goal.invariant-loop-place
invariant-loop-place l = record {
  places : AreListedBelow l.filters l.rules l.place;
  digests : l.filters.digests.items ≡ digests_of l.rules;
}
