-- The fields of a script line.
use Rattle.std.specs.Prelude.{ℕ, List, ◌++◌, codes}
use Rattle.line_spec.specs.declared.command_path.CommandPath.{CommandPath}
use Rattle.line_spec.specs.declared.command_path.CommandPath.TheVariants as path
use Rattle.line_spec.specs.declared.update_field.UpdateField.{UpdateField}
use Rattle.line_spec.specs.declared.update_field.UpdateField.TheVariants as field

-- the key under which a field stands in an update
abbrev pub field_name : UpdateField → List ℕ
field_name field.Extension = codes "extension"
field_name field.RemoveRuleIds = codes "removeRuleIds"
field_name field.AddRules = codes "addRules"
field_name field.DisableRulesetIds = codes "disableRulesetIds"
field_name field.EnableRulesetIds = codes "enableRulesetIds"
field_name field.RulesetId = codes "rulesetId"
field_name field.DisableRuleIds = codes "disableRuleIds"
field_name field.EnableRuleIds = codes "enableRuleIds"
field_name field.Rulesets = codes "rulesets"
field_name field.HostPermissions = codes "hostPermissions"

-- the key under which a field stands in the line; of an update in a batch the list of updates comes first
abbrev pub path_name : CommandPath → List ℕ
path_name path.Cmd = codes "cmd"
path_name path.Url = codes "url"
path_name path.Kind = codes "type"
path_name path.Initiator = codes "initiator"
path_name path.Method = codes "method"
path_name path.Tab = codes "tab"
path_name path.Frames = codes "frames"
path_name path.RequestHeaders = codes "requestHeaders"
path_name path.ResponseHeaders = codes "responseHeaders"
path_name (path.Update field) = field_name field
path_name path.Updates = codes "updates"
path_name path.UpdatesCmd = codes "updates.cmd"
path_name (path.InUpdates field) = codes "updates." ++ field_name field
