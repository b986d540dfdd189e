use Rattle.serde_json.specs.Find.{as_str}
use Rattle.json_spec.proofs.Each.{IsReadSoFar}
use Rattle.access_read.proofs.patterns.each_pattern.Given as goal

abbrev pub invariant-loop-value : goal.invariant-loop-value
invariant-loop-value l = IsReadSoFar as_str l.values l.patterns.items l.value-index
