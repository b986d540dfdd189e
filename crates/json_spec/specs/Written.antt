-- Rules as JSON, in the form in which they are read: Chrome's reference of declarativeNetRequest, `Rule`. A field
-- that says no more than its absence is left out.
use Rattle.std.specs.Prelude.{ℕ, ℤ, List, [], ◌∷◌, codes, map, fold, Bool, true, false, not, ◌&&◌, Option, Some, None, option_map, if◌then◌else◌}
use Rattle.std.specs.List.{list_all}
use Rattle.std.specs.Ordering.{nat_cmp, int_cmp}
use Rattle.std.specs.Cmp.Lexicographic.{slice_cmp}
use Rattle.std.specs.BTreeSet.{insert_key}
use Rattle.serde_json.specs.Data.{Data, boolean, number, unsigned, string, array, object, Members, no_members, put}
use Rattle.serde_json.specs.Find.{of_integer}
use Rattle.serde_json.specs.View.{items_of}
use Rattle.serde_json.specs.Written.{compact_text}
use Rattle.dnr_base.specs.declared.kind.Kind.{Kind}
use Rattle.dnr_base.specs.declared.kind.Kind.TheVariants.{MainFrame}
use Rattle.dnr_base.specs.Kind.{all_kinds, default_kinds, has_kind}
use Rattle.dnr_base.specs.Kind as kind
use Rattle.dnr_base.specs.declared.method.Method.{Method}
use Rattle.dnr_base.specs.Method as method
use Rattle.dnr_base.specs.declared.operation.Operation.{Operation}
use Rattle.dnr_base.specs.declared.operation.Operation.TheVariants.{Append, Set, Remove}
use Rattle.dnr_base.specs.declared.scheme.Scheme.{Scheme}
use Rattle.dnr_base.specs.Scheme.{scheme_text}
use Rattle.dnr_base.specs.declared.redirect.Redirect.{Redirect}
use Rattle.dnr_base.specs.declared.redirect.Redirect.TheVariants.{ExtensionPath, Transform, Url, RegexSubstitution}
use Rattle.dnr_base.specs.declared.transform.Transform as changed
use Rattle.dnr_base.specs.declared.query_transform.QueryTransform.{QueryTransform}
use Rattle.dnr_base.specs.declared.query_pair.QueryPair.{QueryPair}
use Rattle.dnr_spec.specs.Headers.{HeaderOp}
use Rattle.dnr_spec.specs.HeaderTests.{HeaderTest}
use Rattle.rule_spec.specs.Rule.{Condition, Action, block, redirect, allow, upgrade_scheme, modify_headers, allow_all_requests, Rule}
use Rattle.json_spec.specs.RuleFields.{kind_set, method_set}

-- ---- objects and lists

-- a key, and what stands there if the field is there
abbrev pub Field : Type 0
Field = List ℕ × Option Data

abbrev pub with_field : Members → Field → Members
with_field members (key, None) = members
with_field members (key, Some d) = put key d members

-- the members with the fields that are there
abbrev pub with_fields : Members → List Field → Members
with_fields members fields = fold with_field members fields

-- the object of the fields that are there, whose keys ascend by bytes
abbrev pub object_of : List Field → Data
object_of fields = object (with_fields no_members fields)

abbrev pub written_list : {X : Type 0} → (X → Data) → List X → Data
written_list form list = array (items_of (map form list))

-- a list that is left out where it is empty
abbrev pub unless_empty : List Data → Option Data
unless_empty [] = None
unless_empty (d ∷ ds) = Some (array (items_of (d ∷ ds)))

-- `true`, or left out
abbrev pub if_true : Bool → Option Data
if_true true = Some (boolean true)
if_true false = None

-- ---- the condition

-- domains as a set: each once, ascending by bytes
abbrev pub ascending_domains : List (List ℕ) → List (List ℕ)
ascending_domains domains = fold (insert_key (slice_cmp nat_cmp)) [] domains

-- with a tab in its place among the others, unless it is there
unfoldable pub with_tab_in_place : List ℤ → ℤ → List ℤ
with_tab_in_place tabs tab = insert_key int_cmp tabs tab

-- tabs as a set: each once, ascending
abbrev pub ascending_tabs : List ℤ → List ℤ
ascending_tabs tabs = fold with_tab_in_place [] tabs

abbrev pub domains_written : List (List ℕ) → Data
domains_written domains = written_list string (ascending_domains domains)

abbrev pub tab_written : ℤ → Data
tab_written tab = number (of_integer tab)

abbrev pub tabs_written : List ℤ → Data
tabs_written tabs = written_list tab_written (ascending_tabs tabs)

abbrev pub kind_written : Kind → Data
kind_written k = string (kind.name_of k)

-- all types but `main_frame`
abbrev pub are_default : List Kind → Bool
are_default kinds = not (has_kind kinds MainFrame) && list_all (has_kind kinds) default_kinds

-- the types on which the rule holds, unless they are those of a rule that lists none
unfoldable pub kinds_written : List Kind → Option Data
kinds_written kinds = if are_default kinds then None else unless_empty (map kind_written (kind_set kinds))

-- no type at all is written as the exclusion of each
abbrev pub exclusion_of : List Kind → Option Data
exclusion_of [] = Some (written_list kind_written all_kinds)
exclusion_of (kind ∷ kinds) = None

unfoldable pub exclusion_written : List Kind → Option Data
exclusion_written kinds = exclusion_of (kind_set kinds)

abbrev pub method_written : Method → Data
method_written m = string (method.name_of m)

abbrev pub methods_written : List Method → Data
methods_written methods = written_list method_written (method_set methods)

abbrev pub party_written : Bool → Data
party_written true = string (codes "thirdParty")
party_written false = string (codes "firstParty")

abbrev pub filter_fields : Condition → List Field
filter_fields c =
    (codes "urlFilter", option_map string c.url_filter)
    ∷ (codes "regexFilter", option_map string c.regex_filter)
    ∷ (codes "isUrlFilterCaseSensitive", if_true c.case_sensitive)
    ∷ (codes "domainType", option_map party_written c.third_party)
    ∷ []

abbrev pub domain_fields : Condition → List Field
domain_fields c =
    (codes "initiatorDomains", option_map domains_written c.initiators)
    ∷ (codes "excludedInitiatorDomains", unless_empty (map string (ascending_domains c.not_initiators)))
    ∷ (codes "requestDomains", option_map domains_written c.hosts)
    ∷ (codes "excludedRequestDomains", unless_empty (map string (ascending_domains c.not_hosts)))
    ∷ []

abbrev pub kind_fields : Condition → List Field
kind_fields c =
    (codes "resourceTypes", kinds_written c.kinds)
    ∷ (codes "excludedResourceTypes", exclusion_written c.kinds)
    ∷ []

abbrev pub method_fields : Condition → List Field
method_fields c =
    (codes "requestMethods", option_map methods_written c.methods)
    ∷ (codes "excludedRequestMethods", unless_empty (map method_written (method_set c.not_methods)))
    ∷ []

abbrev pub tab_fields : Condition → List Field
tab_fields c =
    (codes "tabIds", option_map tabs_written c.tabs)
    ∷ (codes "excludedTabIds", unless_empty (map tab_written (ascending_tabs c.not_tabs)))
    ∷ []

-- the patterns of values keep their order and their repeats
abbrev pub test_written : HeaderTest → Data
test_written test =
    object_of (
    (codes "header", Some (string test.name))
    ∷ (codes "values", option_map (written_list string) test.values)
    ∷ (codes "excludedValues", unless_empty (map string test.excluded))
    ∷ []
    )

abbrev pub test_fields : Condition → List Field
test_fields c =
    (codes "responseHeaders", option_map (written_list test_written) c.header_tests)
    ∷ (codes "excludedResponseHeaders", unless_empty (map test_written c.not_header_tests))
    ∷ []

unfoldable pub condition_written : Condition → Data
condition_written c =
    let filters = with_fields no_members (filter_fields c) in
    let domains = with_fields filters (domain_fields c) in
    let kinds = with_fields domains (kind_fields c) in
    let methods = with_fields kinds (method_fields c) in
    let tabs = with_fields methods (tab_fields c) in
    object (with_fields tabs (test_fields c))

-- ---- the action

abbrev pub pair_written : QueryPair → Data
pair_written pair =
    object_of ((codes "key", Some (string pair.key)) ∷ (codes "value", Some (string pair.value)) ∷ (codes "replaceOnly", if_true pair.replace_only) ∷ [])

abbrev pub changes_written : QueryTransform → Data
changes_written changes =
    object_of ((codes "removeParams", unless_empty (map string changes.remove)) ∷ (codes "addOrReplaceParams", unless_empty (map pair_written changes.add)) ∷ [])

abbrev pub scheme_written : Scheme → Data
scheme_written scheme = string (scheme_text scheme)

abbrev pub place_fields : changed.Transform → List Field
place_fields t =
    (codes "scheme", option_map scheme_written t.scheme)
    ∷ (codes "host", option_map string t.host)
    ∷ (codes "port", option_map string t.port)
    ∷ (codes "path", option_map string t.path)
    ∷ []

abbrev pub query_fields : changed.Transform → List Field
query_fields t =
    (codes "query", option_map string t.query)
    ∷ (codes "queryTransform", option_map changes_written t.query_transform)
    ∷ []

abbrev pub end_fields : changed.Transform → List Field
end_fields t =
    (codes "fragment", option_map string t.fragment)
    ∷ (codes "username", option_map string t.username)
    ∷ (codes "password", option_map string t.password)
    ∷ []

unfoldable pub transform_written : changed.Transform → Data
transform_written t =
    let place = with_fields no_members (place_fields t) in
    let query = with_fields place (query_fields t) in
    object (with_fields query (end_fields t))

-- a redirect has one field
abbrev pub redirect_written : Redirect → Data
redirect_written (ExtensionPath path) = object_of ((codes "extensionPath", Some (string path)) ∷ [])
redirect_written (Transform t) = object_of ((codes "transform", Some (transform_written t)) ∷ [])
redirect_written (Url url) = object_of ((codes "url", Some (string url)) ∷ [])
redirect_written (RegexSubstitution text) = object_of ((codes "regexSubstitution", Some (string text)) ∷ [])

abbrev pub operation_name : Operation → List ℕ
operation_name Append = codes "append"
operation_name Set = codes "set"
operation_name Remove = codes "remove"

abbrev pub op_written : HeaderOp → Data
op_written op =
    object_of ((codes "header", Some (string op.name)) ∷ (codes "operation", Some (string (operation_name op.operation))) ∷ (codes "value", option_map string op.value) ∷ [])

abbrev pub type_name : Action → List ℕ
type_name block = codes "block"
type_name (redirect target) = codes "redirect"
type_name allow = codes "allow"
type_name upgrade_scheme = codes "upgradeScheme"
type_name (modify_headers request response) = codes "modifyHeaders"
type_name allow_all_requests = codes "allowAllRequests"

-- what an action has beside its type
abbrev pub target_fields : Action → List Field
target_fields block = []
target_fields (redirect target) = (codes "redirect", Some (redirect_written target)) ∷ []
target_fields allow = []
target_fields upgrade_scheme = []
target_fields (modify_headers request response) =
    (codes "requestHeaders", unless_empty (map op_written request)) ∷ (codes "responseHeaders", unless_empty (map op_written response)) ∷ []
target_fields allow_all_requests = []

unfoldable pub action_written : Action → Data
action_written action = object_of ((codes "type", Some (string (type_name action))) ∷ target_fields action)

-- ---- rules

unfoldable pub rule_written : Rule → Data
rule_written rule =
    object_of (
    (codes "id", Some (number (unsigned rule.id)))
    ∷ (codes "priority", Some (number (unsigned rule.priority)))
    ∷ (codes "condition", Some (condition_written rule.condition))
    ∷ (codes "action", Some (action_written rule.action))
    ∷ []
    )

abbrev pub rules_written : List Rule → Data
rules_written rules = written_list rule_written rules

-- the text of rules: their list in JSON, with no space
abbrev pub written : List Rule → List ℕ
written rules = compact_text (rules_written rules)
