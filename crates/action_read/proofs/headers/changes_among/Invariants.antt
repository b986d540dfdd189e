use Rattle.json_spec.specs.RuleAction.{as_change}
use Rattle.json_spec.proofs.Each.{IsReadSoFar}
use Rattle.action_read.specs.Changes.{changes_seen}
use Rattle.action_read.proofs.headers.changes_among.Given as goal

abbrev pub invariant-loop-value : goal.invariant-loop-value
invariant-loop-value l = IsReadSoFar as_change l.values (changes_seen l.changes.items) l.value-index
