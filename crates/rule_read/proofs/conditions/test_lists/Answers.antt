use Rattle.std.proofs.Common.{sym, ◌∙◌}
use Rattle.rule_fields.specs.Seen.{fields_seen}
use Rattle.rule_read.proofs.Given.{lists_pass}
use Rattle.rule_read.proofs.conditions.test_lists.Goals as goal

pub returns-clause-ok : goal.returns-clause-ok
returns-clause-ok c =
    lists_pass (fields_seen c.args.fields.now) (sym c.is_empty.ensures ∙ c.if-is_empty.false) (sym c.is_empty-2.ensures ∙ c.if-is_empty-2.false) (sym c.is_empty-3.ensures ∙ c.if-is_empty-3.false)
    (sym c.has_no_kind.ensures ∙ c.if-has_no_kind.false) (sym c.has_no_method.ensures ∙ c.if-has_no_method.false) (sym c.has_no_tab.ensures ∙ c.if-has_no_tab.false)
    (sym c.has_no_test.ensures ∙ c.if-has_no_test.false) (sym c.has_no_value.ensures ∙ c.if-has_no_value.false) (sym c.has_no_value-2.ensures ∙ c.if-has_no_value-2.false)
    (sym c.are_both_given.ensures ∙ c.if-are_both_given.false)
