use Rattle.explain_report.proofs.rules.push_ruleset.Goals as goal

pub returns : goal.returns
returns c = rw c.in-Some.is (rw c.as_str.ensures at c.push_text_field.ensures)
