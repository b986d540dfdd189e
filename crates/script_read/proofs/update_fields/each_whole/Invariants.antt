use Rattle.line_spec.specs.Updates.{as_whole}
use Rattle.json_spec.proofs.Each.{IsReadSoFar}
use Rattle.script_read.proofs.update_fields.each_whole.Given as goal

abbrev pub invariant-loop-value : goal.invariant-loop-value
invariant-loop-value l = IsReadSoFar as_whole l.values l.numbers.items l.value-index
