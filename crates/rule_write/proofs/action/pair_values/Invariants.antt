use Rattle.std.proofs.Common.{◌≡◌, map, take}
use Rattle.serde_json.specs.View.{view}
use Rattle.json_spec.specs.Written.{pair_written}
use Rattle.rule_write.proofs.action.pair_values.Given as goal

abbrev pub invariant-loop-pair : goal.invariant-loop-pair
invariant-loop-pair l = map view l.values.items ≡ map pair_written (take l.pair-index l.pairs)
