use Rattle.explain_report.proofs.Pieces.{five}
use Rattle.explain_report.proofs.verdict.push_change.Goals as goal

pub returns : goal.returns
returns c =
    rw (← c.direction_name.ensures, ← c.operation_name.ensures)
    (five c.push_word-5.result _ _ _ _ _ _ _ _ _ _ _ c.in_ok-push_word.ensures c.in_ok-push_word-2.ensures c.in_ok-push_word-3.ensures
    c.in_ok-push_word-4.ensures c.push_word-5.ensures)
