use Rattle.std.proofs.Common.{◌≡◌, map, take}
use Rattle.serde_json.specs.View.{view}
use Rattle.keep_spec.specs.Written.{id_written}
use Rattle.rule_keep.proofs.payload.id_values.Given as goal

abbrev pub invariant-loop-id : goal.invariant-loop-id
invariant-loop-id l = map view l.values.items ≡ map id_written (take l.id-index l.ids)
