use Rattle.std.proofs.Common.{◌≡◌, map, take}
use Rattle.serde_json.specs.View.{view}
use Rattle.json_spec.specs.Written.{method_written}
use Rattle.rule_write.proofs.sets.method_values.Given as goal

abbrev pub invariant-loop-method : goal.invariant-loop-method
invariant-loop-method l = map view l.values.items ≡ map method_written (take l.method-index l.methods)
