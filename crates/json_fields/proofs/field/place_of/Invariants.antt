use Rattle.std.proofs.Common.{length, ◌-◌, ◌≢◌, ◌<◌, slice_index_or, ℕ, ◌≤◌}
use Rattle.json_fields.specs.declared.field.Field.{Field as SpecField}
use Rattle.json_fields.proofs.field.place_of.Given as goal

abbrev pub invariant-loop-at : goal.invariant-loop-at
invariant-loop-at l = (l.at ≤ length l.fields) × ((k : ℕ) (d : SpecField) → k < l.at → (slice_index_or l.fields k d).name.now ≢ l.name)

abbrev pub decreases-loop-at : goal.decreases-loop-at
decreases-loop-at l = length l.fields - l.at
