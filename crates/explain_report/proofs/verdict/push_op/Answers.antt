use Rattle.explain_report.proofs.Pieces.{seven}
use Rattle.explain_report.proofs.verdict.push_op.Goals as goal

pub returns : goal.returns
returns c =
    rw (← c.op.view_is)
    (seven c.push_word-3.result _ _ _ _ _ _ _ _ _ _ _ _ _ _ _
    (rw c.operation.ensures at c.in_ok-push_change.ensures) (rw c.name.ensures at c.in_ok-push_quoted.ensures) c.in_ok-push_word.ensures
    (rw c.value.ensures.value at c.in_ok-push_text_or_null.ensures) c.in_ok-push_word-2.ensures c.in_ok-push_rule.ensures c.push_word-3.ensures)
