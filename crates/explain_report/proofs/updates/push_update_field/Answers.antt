use Rattle.explain_report.proofs.updates.push_update_field.Goals as goal

pub returns-in-NoRuleset : goal.returns-in-NoRuleset
returns-in-NoRuleset c = rw c.in-NoRuleset.is (rw c.as_str.ensures at c.push_text_field.ensures)
