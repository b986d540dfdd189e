use Rattle.explain_report.proofs.Pieces.{six}
use Rattle.explain_report.proofs.verdict.push_verdict.Goals as goal

pub returns : goal.returns
returns c =
    rw (← c.verdict.view_is)
    (six c.push_headers-2.result _ _ _ _ _ _ _ _ _ _ _ _ _ c.in_ok-push_outcome.ensures c.in_ok-push_rule_field.ensures c.in_ok-push_url.ensures
    (rw c.as_slice.ensures at c.in_ok-push_ops.ensures) c.in_ok-push_headers.ensures c.push_headers-2.ensures)
