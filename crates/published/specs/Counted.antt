-- What a state's count is.
use Rattle.std.specs.Prelude.{◌≡◌, ◌+◌, List, length}
use Rattle.rule_spec.specs.State.{State}
use Rattle.update_spec.specs.Entries.{Entry, replay}

abbrev pub EntriesAreCounted : Type 0
EntriesAreCounted = (state : State) (list : List Entry) → (replay state list).count ≡ state.count + length list
