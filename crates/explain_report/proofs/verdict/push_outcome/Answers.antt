use Rattle.explain_report.proofs.Pieces.{three}
use Rattle.explain_report.proofs.verdict.push_outcome.Goals as goal

pub returns : goal.returns
returns c =
    rw (← c.outcome_name.ensures)
    (three c.push_word-3.result _ _ _ _ _ _ _ c.in_ok-push_word.ensures c.in_ok-push_word-2.ensures c.push_word-3.ensures)
