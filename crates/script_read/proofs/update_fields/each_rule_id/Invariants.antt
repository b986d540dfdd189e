use Rattle.script_read.proofs.Ids.{AreReadSoFar}
use Rattle.script_read.proofs.update_fields.each_rule_id.Given as goal

abbrev pub invariant-loop-value : goal.invariant-loop-value
invariant-loop-value l = AreReadSoFar l.values l.ids.items l.value-index
