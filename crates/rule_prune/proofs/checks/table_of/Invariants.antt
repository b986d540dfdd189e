use Rattle.std.proofs.Common.{◌-◌, drop, length}
use Rattle.rule_prune.specs.Known.{Tells}
use Rattle.rule_prune.proofs.checks.table_of.Given as goal

abbrev pub invariant-loop-behind : goal.invariant-loop-behind
invariant-loop-behind l = Tells l.table (drop (length l.rules - l.behind) l.rules)
