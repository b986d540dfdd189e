use Rattle.explain_report.proofs.Pieces.{line_of_five}
use Rattle.explain_report.proofs.tools.write_removed.Goals as goal

pub returns-clause-appended : goal.returns-clause-appended
returns-clause-appended c =
    line_of_five c.append.result _ _ _ _ _ _ _ _ _ _ _ _ _ c.in_ok-text.ensures c.in_ok-push_word.ensures c.in_ok-push_number.ensures
    c.in_ok-push_word-2.ensures c.in_ok-push_number-2.ensures c.in_ok-push_word-3.ensures c.append.ensures.appended
