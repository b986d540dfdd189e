use Rattle.std.proofs.Common.{◌≡◌, map, take}
use Rattle.serde_json.specs.View.{view}
use Rattle.json_spec.specs.Written.{rule_written}
use Rattle.rule_keep.proofs.payload.rule_values.Given as goal

abbrev pub invariant-loop-shared : goal.invariant-loop-shared
invariant-loop-shared l = map view l.values.items ≡ map rule_written (take l.shared-index l.rules)
