use Rattle.json_spec.specs.RuleAction.{short_text}
use Rattle.json_spec.proofs.Each.{IsReadSoFar}
use Rattle.action_read.proofs.transforms.keys_in.Given as goal

abbrev pub invariant-loop-value : goal.invariant-loop-value
invariant-loop-value l = IsReadSoFar short_text l.values l.keys.items l.value-index
