use Rattle.std.proofs.Common.{sym}
use Rattle.json_spec.proofs.Trees.{tree_of_none}
use Rattle.script_read.proofs.Alike.{tree_speaks}
use Rattle.script_read.proofs.kept_updates.read_update.Goals as goal

pub returns-in-Ok-clause-ok : goal.returns-in-Ok-clause-ok
returns-in-Ok-clause-ok c =
    tree_speaks c.args.bytes.now c.in-Ok.text.now c.text_update.result c.in-Ok.ensures.cases.0 c.in-Ok.ensures.cases.1 c.text_update.ensures.ok

pub returns-in-Err-clause-bad : goal.returns-in-Err-clause-bad
returns-in-Err-clause-bad c = λ _. sym (tree_of_none c.args.bytes.now (λ utf8. absurd (c.in-Err.ensures.cases.0 utf8)))
