use Rattle.json_spec.specs.RuleAction.{as_pair}
use Rattle.json_spec.proofs.Each.{IsReadSoFar}
use Rattle.action_read.proofs.transforms.pairs_in.Given as goal

abbrev pub invariant-loop-value : goal.invariant-loop-value
invariant-loop-value l = IsReadSoFar as_pair l.values l.pairs.items l.value-index
