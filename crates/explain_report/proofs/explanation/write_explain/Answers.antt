use Rattle.explain_report.proofs.Pieces.{line_of_five}
use Rattle.explain_report.proofs.explanation.write_explain.Goals as goal

pub returns-clause-appended : goal.returns-clause-appended
returns-clause-appended c =
    rw (← c.explanation.view_is)
    (line_of_five c.append.result _ _ _ _ _ _ _ _ _ _ _ _ _ c.in_ok-text.ensures c.in_ok-push_start.ensures c.in_ok-push_verdict.ensures
    c.in_ok-push_word.ensures (rw c.as_slice.ensures at c.in_ok-push_list.ensures) c.in_ok-push_word-2.ensures c.append.ensures.appended)
