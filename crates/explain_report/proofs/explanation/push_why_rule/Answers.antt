use Rattle.explain_report.proofs.Pieces.{six}
use Rattle.explain_report.proofs.explanation.push_why_rule.Goals as goal

pub returns : goal.returns
returns c =
    rw (← c.why.view_is)
    (six c.push_lines.result _ _ _ _ _ _ _ _ _ _ _ _ _ c.in_ok-push_rule.ensures c.in_ok-push_word.ensures
    (rw c.verb_name.ensures at c.in_ok-push_word-2.ensures) c.in_ok-push_number_field.ensures c.in_ok-push_frame.ensures
    (rw c.as_slice.ensures at c.push_lines.ensures))
