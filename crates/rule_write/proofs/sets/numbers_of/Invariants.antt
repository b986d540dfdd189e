use Rattle.std.proofs.Common.{◌≡◌, ◌++◌, map}
use Rattle.serde_json.specs.View.{view}
use Rattle.json_spec.specs.Written.{tab_written}
use Rattle.rule_write.proofs.sets.numbers_of.Given as goal

abbrev pub invariant-loop-tab : goal.invariant-loop-tab
invariant-loop-tab l = record {
  can : (goal.iterator-loop-tab).can_next l.tab-iterator;
  ends : (goal.iterator-loop-tab).is_finite l.tab-iterator;
  same : map tab_written l.set.keys ≡ map view l.values.items ++ map tab_written l.tab-iterator;
}
