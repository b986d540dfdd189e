use Rattle.std.proofs.Common.{sym, ◌∙◌}
use Rattle.hide_rules.proofs.Named.{listed_decides, excluded_decides, unnamed_passes}
use Rattle.hide_rules.proofs.applies.applies.Goals as goal

pub returns-then-is_listed : goal.returns-then-is_listed
returns-then-is_listed c =
    sym (c.loop-domain.invariant ∙ listed_decides c.args.entries.now c.args.domains.now c.loop-domain.domain-index _ c.loop-domain-test.true (sym c.is_listed.ensures ∙ c.if-is_listed.true))

pub returns-then-is_excluded : goal.returns-then-is_excluded
returns-then-is_excluded c =
    sym (c.loop-domain.invariant
    ∙ excluded_decides c.args.entries.now c.args.domains.now c.loop-domain.domain-index _ c.loop-domain-test.true (sym c.is_listed.ensures ∙ c.if-is_listed.false) (sym c.is_excluded.ensures ∙ c.if-is_excluded.true))

pub loop-domain-preserved : goal.loop-domain-preserved
loop-domain-preserved c =
    c.loop-domain.invariant
    ∙ unnamed_passes c.args.entries.now c.args.domains.now c.loop-domain.domain-index _ c.loop-domain-test.true (sym c.is_listed.ensures ∙ c.if-is_listed.false) (sym c.is_excluded.ensures ∙ c.if-is_excluded.false)
