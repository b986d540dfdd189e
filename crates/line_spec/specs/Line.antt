-- What a script line reads as: nothing, or a JSON object whose `cmd` says what it asks for.
use Rattle.std.specs.Prelude.{ℕ, ◌<◌, ◌≤◌, List, length, min, Option, Some, None, Result, Ok, Err, if◌then◌else◌}
use Rattle.serde_json.specs.Data.{Data, Members}
use Rattle.serde_json.specs.Find.{as_object}
use Rattle.dnr_base.specs.declared.request.Request.{Request}
use Rattle.dnr_base.specs.Request.{IsRequest}
use Rattle.dnr_spec.specs.Lines.{max_lines, is_blank}
use Rattle.json_spec.specs.Json.{tree_of}
use Rattle.update_spec.specs.Update.{Update}
use Rattle.line_spec.specs.declared.command_name.CommandName.{CommandName}
use Rattle.line_spec.specs.declared.command_name.CommandName.TheVariants as name
use Rattle.line_spec.specs.declared.command_path.CommandPath.TheVariants as path
use Rattle.line_spec.specs.declared.line_fault.LineFault.{LineFault}
use Rattle.line_spec.specs.declared.line_fault.LineFault.TheVariants.{BadJson, BadCommand, RuleRefused, NoMemory}
use Rattle.line_spec.specs.declared.update_fault.UpdateFault.{UpdateFault}
use Rattle.line_spec.specs.declared.update_fault.UpdateFault.TheVariants as fault
use Rattle.line_spec.specs.Batch.{max_batch, batch_in}
use Rattle.line_spec.specs.CommandName.{name_in}
use Rattle.line_spec.specs.Reading.{and_then}
use Rattle.line_spec.specs.RequestLine.{request_in}
use Rattle.line_spec.specs.Updates.{update_in}

-- What a line asks for: nothing, to wait for the updates before it, what becomes of a request, or why that becomes of
-- it; an update, or several that are applied together.
pub data Command : Type 0 where
  blank : Command
  sync : Command
  request : Request → Command
  explain : Request → Command
  update : Update → Command
  batch : List Update → Command

-- what a fault of its update is to the line
abbrev pub fault_of : UpdateFault → LineFault
fault_of (fault.BadField field) = BadCommand (path.Update field)
fault_of (fault.RuleRefused refusal) = RuleRefused refusal
fault_of fault.NoMemory = NoMemory

abbrev pub of_line : {X : Type 0} → Result X UpdateFault → Result X LineFault
of_line (Ok x) = Ok x
of_line (Err fault) = Err (fault_of fault)

-- the command of an object that asks for this, on the line of this number
abbrev pub command_named : ℕ → Data → Option CommandName → Result Command LineFault
command_named number d None = Err (BadCommand path.Cmd)
command_named number d (Some name.Request) = and_then (request_in number d) (λ r. Ok (request r))
command_named number d (Some name.Explain) = and_then (request_in number d) (λ r. Ok (explain r))
command_named number d (Some name.Sync) = Ok sync
command_named number d (Some (name.Update which)) = and_then (of_line (update_in which d)) (λ u. Ok (update u))
command_named number d (Some name.Batch) = and_then (batch_in d) (λ us. Ok (batch us))

abbrev pub command_of_members : ℕ → Data → Option Members → Result Command LineFault
command_of_members number d None = Err (BadCommand path.Cmd)
command_of_members number d (Some _) = command_named number d (name_in d)

-- the command of a tree
unfoldable pub command_in : ℕ → Data → Result Command LineFault
command_in number d = command_of_members number d (as_object d)

abbrev pub command_of_tree : ℕ → Option Data → Result Command LineFault
command_of_tree number None = Err BadJson
command_of_tree number (Some d) = command_in number d

-- the command of the line of this number; a script has no more lines than a line's number can say
unfoldable pub command_of : ℕ → List ℕ → Result Command LineFault
command_of number line = if is_blank line then Ok blank else command_of_tree (min number max_lines) (tree_of line)

-- ---- what every command keeps

-- its request is within the limits of requests, and its batch within those of batches
abbrev pub IsWithinLimits : Command → Type 0
IsWithinLimits blank = Unit {0}
IsWithinLimits sync = Unit {0}
IsWithinLimits (request r) = IsRequest r
IsWithinLimits (explain r) = IsRequest r
IsWithinLimits (update u) = Unit {0}
IsWithinLimits (batch us) = (0 < length us) × (length us ≤ max_batch)
