-- What an object asks for, by the text `cmd`.
use Rattle.std.specs.Prelude.{ℕ, List, codes, Option, Some, None, option_map, if◌then◌else◌}
use Rattle.std.specs.Str.{bytes_eq}
use Rattle.serde_json.specs.Data.{Data, string}
use Rattle.serde_json.specs.Find.{get}
use Rattle.line_spec.specs.declared.command_name.UpdateName.{UpdateName}
use Rattle.line_spec.specs.declared.command_name.UpdateName.TheVariants.{Dynamic, Session, Rulesets, Static, Install, Uninstall}
use Rattle.line_spec.specs.declared.command_name.CommandName.{CommandName}
use Rattle.line_spec.specs.declared.command_name.CommandName.TheVariants.{Request, Explain, Sync, Update, Batch}

abbrev pub update_named : List ℕ → Option UpdateName
update_named name =
    if bytes_eq name (codes "dynamic") then Some Dynamic
    else (if bytes_eq name (codes "session") then Some Session
    else (if bytes_eq name (codes "rulesets") then Some Rulesets
    else (if bytes_eq name (codes "static") then Some Static
    else (if bytes_eq name (codes "install") then Some Install
    else (if bytes_eq name (codes "uninstall") then Some Uninstall else None)))))

abbrev pub command_named : List ℕ → Option CommandName
command_named name =
    if bytes_eq name (codes "request") then Some Request
    else (if bytes_eq name (codes "explain") then Some Explain
    else (if bytes_eq name (codes "sync") then Some Sync
    else (if bytes_eq name (codes "batch") then Some Batch else option_map Update (update_named name))))

-- a request where nothing is said, and nothing that is known where what is said is no text
abbrev pub name_from : Option Data → Option CommandName
name_from None = Some Request
name_from (Some (string name)) = command_named name
name_from (Some _) = None

abbrev pub name_in : Data → Option CommandName
name_in d = name_from (get (codes "cmd") d)
