use Rattle.explain_report.proofs.Pieces.{four}
use Rattle.explain_report.proofs.trace.push_hop.Goals as goal

pub returns : goal.returns
returns c =
    rw (← c.hop.view_is, ← c.hop-inside.view_is)
    (four c.push_word.result _ _ _ _ _ _ _ _ _ (rw c.as_str.ensures at c.in_ok-push_text_field.ensures) c.in_ok-push_outcome.ensures
    c.in_ok-push_rule_field.ensures c.push_word.ensures)
