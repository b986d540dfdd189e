use Rattle.std.proofs.Common.{sym}
use Rattle.json_spec.proofs.Trees.{tree_of_none}
use Rattle.script_read.proofs.Alike.{tree_holds}
use Rattle.script_read.proofs.kept_updates.read_batch.Goals as goal

pub returns-in-Ok-clause-ok : goal.returns-in-Ok-clause-ok
returns-in-Ok-clause-ok c =
    tree_holds c.args.bytes.now c.in-Ok.text.now c.text_batch.result c.in-Ok.ensures.cases.0 c.in-Ok.ensures.cases.1 c.text_batch.ensures.ok

pub returns-in-Err-clause-bad : goal.returns-in-Err-clause-bad
returns-in-Err-clause-bad c = λ _. sym (tree_of_none c.args.bytes.now (λ utf8. absurd (c.in-Err.ensures.cases.0 utf8)))
