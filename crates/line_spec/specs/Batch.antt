-- What a batch of updates reads as: from 1 to 256 of them, in turn.
use Rattle.std.specs.Prelude.{ℕ, ◌+◌, List, [], ◌∷◌, ◌&&◌, nat_le, Option, Some, None, option_and_then, Result, Ok, Err, if◌then◌else◌}
use Rattle.serde_json.specs.Data.{Data, Items, no_items, item, Members}
use Rattle.serde_json.specs.Find.{get, as_array, as_object}
use Rattle.update_spec.specs.Update.{Update}
use Rattle.line_spec.specs.declared.command_name.CommandName.{CommandName}
use Rattle.line_spec.specs.declared.command_name.CommandName.TheVariants as name
use Rattle.line_spec.specs.declared.command_path.CommandPath.TheVariants as path
use Rattle.line_spec.specs.declared.line_fault.LineFault.{LineFault}
use Rattle.line_spec.specs.declared.line_fault.LineFault.TheVariants.{BadCommand, InBatch, NoMemory}
use Rattle.line_spec.specs.declared.update_fault.UpdateFault.{UpdateFault}
use Rattle.line_spec.specs.declared.update_fault.UpdateFault.TheVariants as fault
use Rattle.line_spec.specs.CommandName.{name_in}
use Rattle.line_spec.specs.CommandPath.{path_name}
use Rattle.line_spec.specs.Reading.{and_then}
use Rattle.line_spec.specs.RequestLine.{count_of}
use Rattle.line_spec.specs.Updates.{update_in}

-- the most updates of a batch
abbrev pub max_batch : ℕ
max_batch = 256

-- what a fault of the update at this place is to the batch
abbrev pub fault_at : ℕ → UpdateFault → LineFault
fault_at place (fault.BadField field) = BadCommand (path.InUpdates field)
fault_at place (fault.RuleRefused refusal) = InBatch place refusal
fault_at place fault.NoMemory = NoMemory

abbrev pub at_place : {X : Type 0} → ℕ → Result X UpdateFault → Result X LineFault
at_place place (Ok x) = Ok x
at_place place (Err fault) = Err (fault_at place fault)

-- nothing but an update stands in a batch
abbrev pub element_named : ℕ → Data → Option CommandName → Result Update LineFault
element_named place d None = Err (BadCommand path.UpdatesCmd)
element_named place d (Some name.Request) = Err (BadCommand path.UpdatesCmd)
element_named place d (Some name.Explain) = Err (BadCommand path.UpdatesCmd)
element_named place d (Some name.Sync) = Err (BadCommand path.UpdatesCmd)
element_named place d (Some name.Batch) = Err (BadCommand path.UpdatesCmd)
element_named place d (Some (name.Update update)) = at_place place (update_in update d)

abbrev pub element_of : ℕ → Data → Option Members → Result Update LineFault
element_of place d None = Err (BadCommand path.Updates)
element_of place d (Some _) = element_named place d (name_in d)

-- the update at this place
unfoldable pub element_in : ℕ → Data → Result Update LineFault
element_in place d = element_of place d (as_object d)

-- the updates in turn, the first of which has this place, up to the first at fault
abbrev pub elements_from : ℕ → Items → Result (List Update) LineFault
elements_from place no_items = Ok []
elements_from place (item d items) =
    and_then (element_in place d) (λ first.
    and_then (elements_from (place + 1) items) (λ others. Ok (first ∷ others)))

abbrev pub elements_of : Option Items → Result (List Update) LineFault
elements_of None = Err (BadCommand path.Updates)
elements_of (Some items) =
    if nat_le 1 (count_of items) && nat_le (count_of items) max_batch then elements_from 0 items
    else Err (BadCommand path.Updates)

-- the list of updates, if there is one
abbrev pub updates_at : Data → Option Items
updates_at d = option_and_then as_array (get (path_name path.Updates) d)

unfoldable pub batch_in : Data → Result (List Update) LineFault
batch_in d = elements_of (updates_at d)
