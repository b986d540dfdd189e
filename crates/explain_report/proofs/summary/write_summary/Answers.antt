use Rattle.explain_report.proofs.Pieces.{line_of_eight}
use Rattle.explain_report.proofs.summary.write_summary.Goals as goal

pub returns-clause-appended : goal.returns-clause-appended
returns-clause-appended c =
    line_of_eight c.append.result _ _ _ _ _ _ _ _ _ _ _ _ _ _ _ _ _ _ _ c.in_ok-text.ensures c.in_ok-push_number_field.ensures c.in_ok-push_number_field-2.ensures
    c.in_ok-push_number_field-3.ensures c.in_ok-push_number_field-4.ensures c.in_ok-push_number_field-5.ensures c.in_ok-push_number_field-6.ensures
    c.in_ok-push_number_field-7.ensures c.in_ok-push_word.ensures c.append.ensures.appended
