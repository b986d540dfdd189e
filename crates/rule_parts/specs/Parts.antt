-- The parts of a rule as JSON: the values that are read there, and the parts that they hold.
use Rattle.std.specs.Prelude.{ℕ, List, codes, Bool, true, ◌&&◌, Option, Some, None, is_some, option_and_then, if◌then◌else◌}
use Rattle.std.specs.Str.{bytes_eq}
use Rattle.serde_json.specs.Data.{Data}
use Rattle.serde_json.specs.Find.{get, as_str}
use Rattle.json_fields.specs.declared.shape.Wanted.{Wanted}
use Rattle.json_fields.specs.declared.shape.Wanted.TheVariants as wanted
use Rattle.json_fields.specs.Shapes.{Kept}
use Rattle.rule_parts.specs.declared.part.RulePart.{RulePart}
use Rattle.rule_parts.specs.declared.part.RulePart.TheVariants as part

abbrev pub wanted_at : RulePart → Wanted
wanted_at part.Rule = wanted.Object
wanted_at part.Condition = wanted.Object
wanted_at part.HeaderTests = wanted.List
wanted_at part.HeaderTest = wanted.Object
wanted_at part.Action = wanted.Object
wanted_at part.Redirect = wanted.Object
wanted_at part.Transform = wanted.Object
wanted_at part.QueryTransform = wanted.Object
wanted_at part.QueryPairs = wanted.List
wanted_at part.QueryPair = wanted.Object
wanted_at part.HeaderChanges = wanted.List
wanted_at part.HeaderChange = wanted.Object
wanted_at part.Texts = wanted.List
wanted_at part.Text = wanted.Text
wanted_at part.Numbers = wanted.List
wanted_at part.Number = wanted.Number
wanted_at part.Truth = wanted.Truth
wanted_at part.Presence = wanted.Nothing

abbrev pub item_of : RulePart → RulePart
item_of part.HeaderTests = part.HeaderTest
item_of part.QueryPairs = part.QueryPair
item_of part.HeaderChanges = part.HeaderChange
item_of part.Texts = part.Text
item_of part.Numbers = part.Number
item_of _ = part.Presence

-- Chrome's reference of declarativeNetRequest, `Rule`
abbrev pub rule_member : List ℕ → Option RulePart
rule_member name =
    if bytes_eq name (codes "id") then Some part.Number
    else (if bytes_eq name (codes "priority") then Some part.Number
    else (if bytes_eq name (codes "condition") then Some part.Condition
    else (if bytes_eq name (codes "action") then Some part.Action else None)))

-- `RuleCondition`
abbrev pub condition_member : List ℕ → Option RulePart
condition_member name =
    if bytes_eq name (codes "topDomains") then Some part.Presence
    else (if bytes_eq name (codes "excludedTopDomains") then Some part.Presence
    else (if bytes_eq name (codes "urlFilter") then Some part.Text
    else (if bytes_eq name (codes "regexFilter") then Some part.Text
    else (if bytes_eq name (codes "isUrlFilterCaseSensitive") then Some part.Truth
    else (if bytes_eq name (codes "initiatorDomains") then Some part.Texts
    else (if bytes_eq name (codes "excludedInitiatorDomains") then Some part.Texts
    else (if bytes_eq name (codes "domains") then Some part.Texts
    else (if bytes_eq name (codes "excludedDomains") then Some part.Texts
    else (if bytes_eq name (codes "requestDomains") then Some part.Texts
    else (if bytes_eq name (codes "excludedRequestDomains") then Some part.Texts
    else (if bytes_eq name (codes "domainType") then Some part.Text
    else (if bytes_eq name (codes "resourceTypes") then Some part.Texts
    else (if bytes_eq name (codes "excludedResourceTypes") then Some part.Texts
    else (if bytes_eq name (codes "requestMethods") then Some part.Texts
    else (if bytes_eq name (codes "excludedRequestMethods") then Some part.Texts
    else (if bytes_eq name (codes "tabIds") then Some part.Numbers
    else (if bytes_eq name (codes "excludedTabIds") then Some part.Numbers
    else (if bytes_eq name (codes "responseHeaders") then Some part.HeaderTests
    else (if bytes_eq name (codes "excludedResponseHeaders") then Some part.HeaderTests else None)))))))))))))))))))

-- `HeaderInfo`
abbrev pub header_test_member : List ℕ → Option RulePart
header_test_member name =
    if bytes_eq name (codes "header") then Some part.Text
    else (if bytes_eq name (codes "values") then Some part.Texts
    else (if bytes_eq name (codes "excludedValues") then Some part.Texts else None))

-- `RuleAction`
abbrev pub action_member : List ℕ → Option RulePart
action_member name =
    if bytes_eq name (codes "type") then Some part.Text
    else (if bytes_eq name (codes "redirect") then Some part.Redirect
    else (if bytes_eq name (codes "requestHeaders") then Some part.HeaderChanges
    else (if bytes_eq name (codes "responseHeaders") then Some part.HeaderChanges else None)))

-- `Redirect`
abbrev pub redirect_member : List ℕ → Option RulePart
redirect_member name =
    if bytes_eq name (codes "extensionPath") then Some part.Text
    else (if bytes_eq name (codes "transform") then Some part.Transform
    else (if bytes_eq name (codes "url") then Some part.Text
    else (if bytes_eq name (codes "regexSubstitution") then Some part.Text else None)))

-- `URLTransform`
abbrev pub transform_member : List ℕ → Option RulePart
transform_member name =
    if bytes_eq name (codes "scheme") then Some part.Text
    else (if bytes_eq name (codes "host") then Some part.Text
    else (if bytes_eq name (codes "port") then Some part.Text
    else (if bytes_eq name (codes "path") then Some part.Text
    else (if bytes_eq name (codes "query") then Some part.Text
    else (if bytes_eq name (codes "queryTransform") then Some part.QueryTransform
    else (if bytes_eq name (codes "fragment") then Some part.Text
    else (if bytes_eq name (codes "username") then Some part.Text
    else (if bytes_eq name (codes "password") then Some part.Text else None))))))))

-- `QueryTransform`
abbrev pub query_transform_member : List ℕ → Option RulePart
query_transform_member name =
    if bytes_eq name (codes "removeParams") then Some part.Texts
    else (if bytes_eq name (codes "addOrReplaceParams") then Some part.QueryPairs else None)

-- `QueryKeyValue`
abbrev pub query_pair_member : List ℕ → Option RulePart
query_pair_member name =
    if bytes_eq name (codes "key") then Some part.Text
    else (if bytes_eq name (codes "value") then Some part.Text
    else (if bytes_eq name (codes "replaceOnly") then Some part.Truth else None))

-- `ModifyHeaderInfo`
abbrev pub header_change_member : List ℕ → Option RulePart
header_change_member name =
    if bytes_eq name (codes "header") then Some part.Text
    else (if bytes_eq name (codes "operation") then Some part.Text
    else (if bytes_eq name (codes "value") then Some part.Text else None))

-- the part at a key, if something is read there
abbrev pub member_of : RulePart → List ℕ → Option RulePart
member_of part.Rule name = rule_member name
member_of part.Condition name = condition_member name
member_of part.HeaderTest name = header_test_member name
member_of part.Action name = action_member name
member_of part.Redirect name = redirect_member name
member_of part.Transform name = transform_member name
member_of part.QueryTransform name = query_transform_member name
member_of part.QueryPair name = query_pair_member name
member_of part.HeaderChange name = header_change_member name
member_of _ name = None

-- a text stands at the key
abbrev pub has_text : List ℕ → Data → Bool
has_text key d = is_some (option_and_then as_str (get key d))

-- no item of a list is read that lacks one of these
abbrev pub accepts_at : RulePart → Data → Bool
accepts_at part.HeaderTest d = has_text (codes "header") d
accepts_at part.HeaderChange d = has_text (codes "header") d && has_text (codes "operation") d
accepts_at part.QueryPair d = has_text (codes "key") d && has_text (codes "value") d
accepts_at _ d = true

-- what is kept of a value that stands at a part, nested no deeper than so
abbrev pub KeptAs : ℕ → RulePart → Data → Data → Type 0
KeptAs depth at d e = Kept wanted_at item_of member_of accepts_at depth at d e
