-- What the fields of a request say of a line.
use Rattle.std.specs.Prelude.{◌≡◌, ℕ, List, false, Option, Some, IsSome, Result, Ok, Err}
use Rattle.serde_json.specs.Data.{Data}
use Rattle.serde_json.specs.Find.{as_object}
use Rattle.line_spec.specs.declared.command_name.CommandName.{CommandName}
use Rattle.line_spec.specs.declared.command_name.CommandName.TheVariants as name
use Rattle.line_spec.specs.CommandName.{name_in}
use Rattle.dnr_spec.specs.Lines.{is_blank}
use Rattle.json_spec.specs.Json.{tree_of}
use Rattle.line_spec.specs.declared.line_fault.LineFault.{LineFault}
use Rattle.line_spec.specs.Line.{Command, blank, sync, request, explain, update, batch, command_of_tree, command_of, IsWithinLimits}
use Rattle.json_fields.specs.declared.field.Field.{Field}
use Rattle.script_read.specs.declared.asked.Asked.{Asked}
use Rattle.script_read.specs.declared.asked.Asked.TheVariants as asked
use Rattle.script_read.specs.Fields.{name_at, command_from}
use Rattle.script_read.specs.Seen.{command_seen}

-- the tree is an object that asks for this
pub record Asks (tree : Option Data) (name : CommandName) : Type 0 where
  pub d : Data
  pub is : tree ≡ Some d
  pub object : IsSome (as_object d)
  pub named : name_in d ≡ Some name

-- the line of this number and this tree asks for that
abbrev pub IsAsked : ℕ → Option Data → Asked → Type 0
IsAsked number tree (asked.Command command) = (command_of_tree number tree ≡ Ok (command_seen command)) × IsWithinLimits (command_seen command)
IsAsked number tree (asked.Update which) = Asks tree (name.Update which)
IsAsked number tree asked.Batch = Asks tree name.Batch

-- the fields say that, with the frames and the headers of this tree
abbrev pub Reads : ℕ → List Field → Option Data → Asked → Type 0
Reads number fields tree (asked.Command command) = (command_from number fields tree ≡ Some (Ok (command_seen command))) × IsWithinLimits (command_seen command)
Reads number fields tree (asked.Update which) = name_at fields ≡ Some (name.Update which)
Reads number fields tree asked.Batch = name_at fields ≡ Some name.Batch

-- ---- the line

-- one update or several, as far as anything is read
abbrev pub AreUpdates : Result Command LineFault → Type 0
AreUpdates (Ok blank) = ⊥
AreUpdates (Ok sync) = ⊥
AreUpdates (Ok (request r)) = ⊥
AreUpdates (Ok (explain r)) = ⊥
AreUpdates (Ok (update one)) = Unit {0}
AreUpdates (Ok (batch all)) = Unit {0}
AreUpdates (Err fault) = Unit {0}

-- the line of this number asks for updates by this name; whatever is found of them, it is no `sync` and no request
pub record AsksForUpdates (number : ℕ) (line : List ℕ) (name : CommandName) : Type 0 where
  pub written : is_blank line ≡ false
  pub asks : Asks (tree_of line) name
  pub updates : AreUpdates (command_of number line)

-- the line of this number asks for that, as far as it is read without a pattern host
abbrev pub AsksFor : ℕ → List ℕ → Asked → Type 0
AsksFor number line (asked.Command command) = (command_of number line ≡ Ok (command_seen command)) × IsWithinLimits (command_seen command)
AsksFor number line (asked.Update which) = AsksForUpdates number line (name.Update which)
AsksFor number line asked.Batch = AsksForUpdates number line name.Batch
