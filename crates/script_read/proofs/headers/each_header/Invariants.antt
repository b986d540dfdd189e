use Rattle.json_spec.proofs.Each.{IsReadSoFar}
use Rattle.line_spec.specs.RequestLine.{as_header}
use Rattle.script_read.proofs.headers.each_header.Given as goal

abbrev pub invariant-loop-value : goal.invariant-loop-value
invariant-loop-value l = IsReadSoFar as_header l.values l.headers.items l.value-index
