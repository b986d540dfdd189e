use Rattle.ruleset_store.specs.Seen.{updates_seen}
use Rattle.rule_keep.proofs.listed.found_of.Given as goal

abbrev pub invariant-loop-update : goal.invariant-loop-update
invariant-loop-update g l = g.U.Updates.stands l.updates (updates_seen l.yielded)
