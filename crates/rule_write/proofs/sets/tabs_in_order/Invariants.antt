use Rattle.std.proofs.Common.{◌≡◌, take}
use Rattle.json_spec.specs.Written.{ascending_tabs}
use Rattle.rule_write.proofs.sets.tabs_in_order.Given as goal

abbrev pub invariant-loop-tab : goal.invariant-loop-tab
invariant-loop-tab l = l.set.keys ≡ ascending_tabs (take l.tab-index l.tabs)
