use Rattle.std.proofs.Common.{◌≡◌, take}
use Rattle.ruleset_store.specs.Installed.{off_in}
use Rattle.ruleset_store.proofs.installed_set.InstalledSet.off_after.Given as goal

abbrev pub invariant-loop-rule : goal.invariant-loop-rule
invariant-loop-rule l = l.off.items ≡ off_in l.disable l.enable l.self.disabled (take l.rule-index l.rule-items)
