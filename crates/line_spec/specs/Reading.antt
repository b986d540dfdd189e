-- Steps of a reading.
use Rattle.std.specs.Prelude.{Result, Ok, Err}

-- goes on with what was read, or stops at its fault
abbrev pub and_then : {X Y Fault : Type 0} → Result X Fault → (X → Result Y Fault) → Result Y Fault
and_then (Ok x) go_on = go_on x
and_then (Err fault) go_on = Err fault
