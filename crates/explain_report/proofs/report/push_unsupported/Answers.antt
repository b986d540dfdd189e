use Rattle.explain_report.proofs.Pieces.{four}
use Rattle.explain_report.proofs.report.push_unsupported.Goals as goal

pub returns : goal.returns
returns c =
    four c.push_word-3.result _ _ _ _ _ _ _ _ _ c.in_ok-push_number_field.ensures c.in_ok-push_word.ensures c.in_ok-push_word-2.ensures
    c.push_word-3.ensures
