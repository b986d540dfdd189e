use Rattle.std.proofs.Common.{◌≡◌, map, take}
use Rattle.serde_json.specs.View.{view}
use Rattle.json_spec.specs.Written.{kind_written}
use Rattle.rule_write.proofs.sets.kind_values.Given as goal

abbrev pub invariant-loop-kind : goal.invariant-loop-kind
invariant-loop-kind l = map view l.values.items ≡ map kind_written (take l.kind-index l.kinds)
