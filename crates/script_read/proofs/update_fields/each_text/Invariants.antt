use Rattle.serde_json.specs.Find.{as_str}
use Rattle.json_spec.proofs.Each.{IsReadSoFar}
use Rattle.script_read.proofs.update_fields.each_text.Given as goal

abbrev pub invariant-loop-value : goal.invariant-loop-value
invariant-loop-value l = IsReadSoFar as_str l.values l.texts.items l.value-index
