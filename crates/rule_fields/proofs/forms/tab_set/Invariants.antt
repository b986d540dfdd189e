use Rattle.std.proofs.Common.{take}
use Rattle.rule_fields.proofs.Tabs.{IsTabSet}
use Rattle.rule_fields.proofs.forms.tab_set.Given as goal

abbrev pub invariant-loop-tab : goal.invariant-loop-tab
invariant-loop-tab l = IsTabSet l.seen l.set.items (take l.tab-index l.tabs)
