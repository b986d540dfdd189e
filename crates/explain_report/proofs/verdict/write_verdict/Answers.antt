use Rattle.explain_report.proofs.Pieces.{line_of_three}
use Rattle.explain_report.proofs.verdict.write_verdict.Goals as goal

pub returns-clause-appended : goal.returns-clause-appended
returns-clause-appended c =
    line_of_three c.append.result _ _ _ _ _ _ _ _ _ c.in_ok-text.ensures c.in_ok-push_start.ensures c.in_ok-push_verdict.ensures
    c.in_ok-push_word.ensures c.append.ensures.appended
