use Rattle.explain_report.proofs.Pieces.{two}
use Rattle.explain_report.proofs.verdict.push_start.Goals as goal

pub returns : goal.returns
returns c = two c.push_number_field-2.result _ _ _ _ _ c.in_ok-push_number_field.ensures c.push_number_field-2.ensures
