use Rattle.explain_report.proofs.Pieces.{five}
use Rattle.explain_report.proofs.trace.push_hop_fault.Goals as goal

pub returns : goal.returns
returns c =
    five c.push_word-2.result _ _ _ _ _ _ _ _ _ _ _ c.in_ok-push_number_field.ensures c.in_ok-push_number_field-2.ensures c.in_ok-push_word.ensures
    c.in_ok-push_rule.ensures c.push_word-2.ensures
