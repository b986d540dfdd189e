use Rattle.explain_report.proofs.Pieces.{four}
use Rattle.explain_report.proofs.verdict.push_headers.Goals as goal

pub returns : goal.returns
returns c =
    rw c.in-Some.is
    (four c.push_list.result _ _ _ _ _ _ _ _ _ c.in_ok-push_word.ensures c.in_ok-push_word-2.ensures c.in_ok-push_word-3.ensures
    (rw c.as_slice.ensures at c.push_list.ensures))
