-- The action of a rule as it stands in a JSON object: Chrome's reference of declarativeNetRequest, `RuleAction`,
-- `Redirect`, `URLTransform` and `ModifyHeaderInfo`.
use Rattle.std.specs.Prelude.{ℕ, ◌+◌, List, [], ◌∷◌, length, codes, Bool, true, false, ◌&&◌, nat_le, Option, Some, None, is_some, is_none, option_map, option_and_then, Result, Ok, Err, if◌then◌else◌}
use Rattle.std.specs.Option.{option_map_or}
use Rattle.std.specs.Result.{result_unwrap_or}
use Rattle.std.specs.Str.{bytes_eq, str_to_ascii_lowercase}
use Rattle.serde_json.specs.Data.{Data, Items, no_items, item}
use Rattle.serde_json.specs.Find.{get, as_str, as_bool, as_array, as_object}
use Rattle.dnr_base.specs.declared.direction.Direction.{Direction}
use Rattle.dnr_base.specs.declared.direction.Direction.TheVariants as direction
use Rattle.dnr_base.specs.declared.operation.Operation.{Operation}
use Rattle.dnr_base.specs.declared.operation.Operation.TheVariants.{Append, Set, Remove}
use Rattle.dnr_base.specs.declared.scheme.Scheme.{Scheme}
use Rattle.dnr_base.specs.Scheme.{scheme_named}
use Rattle.dnr_base.specs.declared.redirect.Redirect.{Redirect}
use Rattle.dnr_base.specs.declared.redirect.Redirect.TheVariants as redirect
use Rattle.dnr_base.specs.declared.transform.Transform.{Transform}
use Rattle.dnr_base.specs.declared.query_transform.QueryTransform.{QueryTransform}
use Rattle.dnr_base.specs.declared.query_pair.QueryPair.{QueryPair}
use Rattle.dnr_spec.specs.declared.header_refusal.HeaderRefusal.{HeaderRefusal}
use Rattle.dnr_spec.specs.Headers.{HeaderOp, header_op_of}
use Rattle.rule_spec.specs.declared.rule_refusal.RuleRefusal.{RuleRefusal}
use Rattle.rule_spec.specs.declared.rule_refusal.RuleRefusal.TheVariants.{BadAction, BadRedirect, BadTransform, BadHeader}
use Rattle.rule_spec.specs.declared.rule_refusal.HeaderCause.TheVariants.{NoHeaders, BadShape, Op}
use Rattle.rule_spec.specs.Rule.{Action, block, redirect, allow, upgrade_scheme, modify_headers, allow_all_requests}
use Rattle.rule_spec.specs.Redirects.{is_short, is_new_host, is_new_port, is_new_path, is_new_query, is_new_fragment, is_new_scheme, is_extension_path, is_redirect_url, is_substitution, max_entries}
use Rattle.json_spec.specs.Json.{text_at}
use Rattle.json_spec.specs.RuleFields.{first_refusal, refused_if, refusal_in, unless_refused, list_of}

-- ---- transforms

-- a text that is short and passes this test
abbrev pub tested_text : (List ℕ → Bool) → Data → Option (List ℕ)
tested_text test d = option_and_then (λ text. if is_short text && test text then Some text else None) (as_str d)

abbrev pub short_text : Data → Option (List ℕ)
short_text d = tested_text (λ text. true) d

abbrev pub new_scheme : List ℕ → Option Scheme
new_scheme name = option_and_then (λ scheme. if is_new_scheme scheme then Some scheme else None) (scheme_named name)

abbrev pub as_new_scheme : Data → Option Scheme
as_new_scheme d = option_and_then new_scheme (as_str d)

-- the list at a key; an absent one is empty
abbrev pub list_from : {X : Type 0} → (Data → Option X) → Option Data → Option (List X)
list_from form None = Some []
list_from form (Some d) = list_of form d

-- `replaceOnly` is false where it is absent
abbrev pub flag_from : Option Data → Option Bool
flag_from None = Some false
flag_from (Some d) = as_bool d

abbrev pub pair_from : Option (List ℕ) → Option (List ℕ) → Option Bool → Option QueryPair
pair_from (Some key) (Some value) (Some replace_only) = Some (record { key = key; value = value; replace_only = replace_only })
pair_from key value replace_only = None

abbrev pub as_pair : Data → Option QueryPair
as_pair d =
    pair_from (option_and_then short_text (get (codes "key") d)) (option_and_then short_text (get (codes "value") d))
    (flag_from (get (codes "replaceOnly") d))

abbrev pub changes_from : Option (List (List ℕ)) → Option (List QueryPair) → Option QueryTransform
changes_from (Some remove) (Some add) =
    if nat_le (length remove + length add) max_entries then Some (record { remove = remove; add = add }) else None
changes_from remove add = None

-- the changes that an object lists
abbrev pub as_changes : Data → Option QueryTransform
as_changes d =
    if is_some (as_object d)
    then changes_from (list_from short_text (get (codes "removeParams") d)) (list_from as_pair (get (codes "addOrReplaceParams") d))
    else None

abbrev pub given_part : {X : Type 0} → Option X → Result (Option X) RuleRefusal
given_part None = Err BadTransform
given_part (Some x) = Ok (Some x)

-- a field that is absent is none, and one of another form is refused
abbrev pub part_from : {X : Type 0} → (Data → Option X) → Option Data → Result (Option X) RuleRefusal
part_from form None = Ok None
part_from form (Some d) = given_part (form d)

-- a field of a transform
unfoldable pub part_in : {X : Type 0} → (Data → Option X) → List ℕ → Data → Result (Option X) RuleRefusal
part_in form key d = part_from form (get key d)

abbrev pub part_of : {X : Type 0} → Result (Option X) RuleRefusal → Option X
part_of reading = result_unwrap_or reading None

abbrev pub transform_tests : Data → List (Option RuleRefusal)
transform_tests d =
    refused_if (is_none (as_object d)) BadTransform
    ∷ refusal_in (part_in as_new_scheme (codes "scheme") d)
    ∷ refusal_in (part_in (tested_text is_new_host) (codes "host") d)
    ∷ refusal_in (part_in (tested_text is_new_port) (codes "port") d)
    ∷ refusal_in (part_in (tested_text is_new_path) (codes "path") d)
    ∷ refusal_in (part_in (tested_text is_new_query) (codes "query") d)
    ∷ refusal_in (part_in as_changes (codes "queryTransform") d)
    ∷ refused_if (is_some (get (codes "query") d) && is_some (get (codes "queryTransform") d)) BadTransform
    ∷ refusal_in (part_in (tested_text is_new_fragment) (codes "fragment") d)
    ∷ refusal_in (part_in short_text (codes "username") d)
    ∷ refusal_in (part_in short_text (codes "password") d)
    ∷ []

-- letters of a host are read in lower case
abbrev pub transform_of : Data → Transform
transform_of d = record {
  scheme = part_of (part_in as_new_scheme (codes "scheme") d);
  host = option_map str_to_ascii_lowercase (part_of (part_in (tested_text is_new_host) (codes "host") d));
  port = part_of (part_in (tested_text is_new_port) (codes "port") d);
  path = part_of (part_in (tested_text is_new_path) (codes "path") d);
  query = part_of (part_in (tested_text is_new_query) (codes "query") d);
  query_transform = part_of (part_in as_changes (codes "queryTransform") d);
  fragment = part_of (part_in (tested_text is_new_fragment) (codes "fragment") d);
  username = part_of (part_in short_text (codes "username") d);
  password = part_of (part_in short_text (codes "password") d);
}

-- a transform, unless a field breaks its form
unfoldable pub transform_in : Data → Result Transform RuleRefusal
transform_in d = unless_refused (first_refusal (transform_tests d)) (transform_of d)

-- ---- redirects

abbrev pub or_bad_redirect : Option Redirect → Result Redirect RuleRefusal
or_bad_redirect None = Err BadRedirect
or_bad_redirect (Some target) = Ok target

abbrev pub if_passes : (List ℕ → Bool) → List ℕ → Option (List ℕ)
if_passes test text = if test text then Some text else None

unfoldable pub extension_in : Data → Result Redirect RuleRefusal
extension_in d = or_bad_redirect (option_map redirect.ExtensionPath (tested_text is_extension_path d))

unfoldable pub url_in : Data → Result Redirect RuleRefusal
url_in d = or_bad_redirect (option_map redirect.Url (option_and_then (if_passes is_redirect_url) (as_str d)))

unfoldable pub substitution_in : Option ℕ → Data → Result Redirect RuleRefusal
substitution_in groups d =
    or_bad_redirect (option_map redirect.RegexSubstitution (option_and_then (if_passes (is_substitution groups)) (as_str d)))

abbrev pub transformed_by : Result Transform RuleRefusal → Result Redirect RuleRefusal
transformed_by (Ok transform) = Ok (redirect.Transform transform)
transformed_by (Err refusal) = Err refusal

-- of the fields `extensionPath`, `transform`, `url` and `regexSubstitution` exactly one is given
abbrev pub redirect_from : Option ℕ → Option Data → Option Data → Option Data → Option Data → Result Redirect RuleRefusal
redirect_from groups (Some path) None None None = extension_in path
redirect_from groups None (Some transform) None None = transformed_by (transform_in transform)
redirect_from groups None None (Some url) None = url_in url
redirect_from groups None None None (Some text) = substitution_in groups text
redirect_from groups path transform url text = Err BadRedirect

abbrev pub redirect_of : Option ℕ → Data → Result Redirect RuleRefusal
redirect_of groups d =
    redirect_from groups (get (codes "extensionPath") d) (get (codes "transform") d) (get (codes "url") d)
    (get (codes "regexSubstitution") d)

abbrev pub redirect_at : Option ℕ → Option Data → Result Redirect RuleRefusal
redirect_at groups None = Err BadRedirect
redirect_at groups (Some d) = redirect_of groups d

abbrev pub redirecting : Result Redirect RuleRefusal → Result Action RuleRefusal
redirecting (Ok target) = Ok (redirect target)
redirecting (Err refusal) = Err refusal

-- `groups` is the count of groups of the rule's regexFilter, if it has one
unfoldable pub redirect_in : Option ℕ → Data → Result Redirect RuleRefusal
redirect_in groups action = redirect_at groups (get (codes "redirect") action)

-- ---- header changes

-- a change as it stands in the list
pub record Change : Type 0 where
  pub header : List ℕ
  pub operation : Operation
  pub value : Option (List ℕ)

abbrev pub operation_named : List ℕ → Option Operation
operation_named name =
    if bytes_eq name (codes "append") then Some Append
    else (if bytes_eq name (codes "set") then Some Set
    else (if bytes_eq name (codes "remove") then Some Remove else None))

-- a value that is absent is none
abbrev pub value_from : Option Data → Option (Option (List ℕ))
value_from None = Some None
value_from (Some d) = option_map Some (as_str d)

abbrev pub change_from : Option (List ℕ) → Option Operation → Option (Option (List ℕ)) → Option Change
change_from (Some header) (Some operation) (Some value) = Some (record { header = header; operation = operation; value = value })
change_from header operation value = None

abbrev pub as_change : Data → Option Change
as_change d =
    change_from (text_at (codes "header") d) (option_and_then operation_named (text_at (codes "operation") d))
    (value_from (get (codes "value") d))

-- the changes of a list, in their shape alone
unfoldable pub changes_at : Option Data → Option (List Change)
changes_at list = list_from as_change list

abbrev pub or_bad_shape : Option (List Change) → Result (List Change) RuleRefusal
or_bad_shape None = Err (BadHeader BadShape)
or_bad_shape (Some changes) = Ok changes

abbrev pub read_change : Direction → Change → Result HeaderOp HeaderRefusal
read_change direction change = header_op_of direction change.header change.operation change.value

abbrev pub or_bad_change : Result HeaderOp HeaderRefusal → Result HeaderOp RuleRefusal
or_bad_change (Ok op) = Ok op
or_bad_change (Err refusal) = Err (BadHeader (Op refusal))

-- an operation before the others, or the first that is refused
abbrev pub with_op : Result HeaderOp HeaderRefusal → Result (List HeaderOp) HeaderRefusal → Result (List HeaderOp) HeaderRefusal
with_op (Err refusal) rest = Err refusal
with_op (Ok op) (Err refusal) = Err refusal
with_op (Ok op) (Ok ops) = Ok (op ∷ ops)

abbrev pub ops_of : Direction → List Change → Result (List HeaderOp) HeaderRefusal
ops_of direction [] = Ok []
ops_of direction (change ∷ changes) = with_op (read_change direction change) (ops_of direction changes)

abbrev pub or_bad_op : Result (List HeaderOp) HeaderRefusal → Result (List HeaderOp) RuleRefusal
or_bad_op (Ok ops) = Ok ops
or_bad_op (Err refusal) = Err (BadHeader (Op refusal))

-- the operations of the changes, or the first that is refused
unfoldable pub ops_in : Direction → List Change → Result (List HeaderOp) RuleRefusal
ops_in direction changes = or_bad_op (ops_of direction changes)

abbrev pub is_no_item : Items → Bool
is_no_item no_items = true
is_no_item (item d items) = false

-- absent, or a list without items
abbrev pub is_empty_list : Option Data → Bool
is_empty_list None = true
is_empty_list (Some d) = option_map_or is_no_item (as_array d) false

abbrev pub modifying : Result (List HeaderOp) RuleRefusal → Result (List HeaderOp) RuleRefusal → Result Action RuleRefusal
modifying (Err refusal) response = Err refusal
modifying (Ok request) (Err refusal) = Err refusal
modifying (Ok request) (Ok response) = Ok (modify_headers request response)

-- both lists have their shape before an operation is tested, the request's first
abbrev pub modify_from : Option (List Change) → Option (List Change) → Result Action RuleRefusal
modify_from (Some request) (Some response) = modifying (ops_in direction.Request request) (ops_in direction.Response response)
modify_from request response = Err (BadHeader BadShape)

unfoldable pub modify_in : Data → Result Action RuleRefusal
modify_in action =
    if is_empty_list (get (codes "requestHeaders") action) && is_empty_list (get (codes "responseHeaders") action)
    then Err (BadHeader NoHeaders)
    else modify_from (changes_at (get (codes "requestHeaders") action)) (changes_at (get (codes "responseHeaders") action))

-- ---- the action

-- the action of this type
abbrev pub action_named : Option ℕ → Data → List ℕ → Result Action RuleRefusal
action_named groups action name =
    if bytes_eq name (codes "block") then Ok block
    else (if bytes_eq name (codes "redirect") then redirecting (redirect_in groups action)
    else (if bytes_eq name (codes "allow") then Ok allow
    else (if bytes_eq name (codes "upgradeScheme") then Ok upgrade_scheme
    else (if bytes_eq name (codes "modifyHeaders") then modify_in action
    else (if bytes_eq name (codes "allowAllRequests") then Ok allow_all_requests
    else Err BadAction)))))

-- what stands under `type`
abbrev pub type_of : Option Data → Option (List ℕ)
type_of action = option_and_then (text_at (codes "type")) action

abbrev pub or_bad_action : (List ℕ → Result Action RuleRefusal) → Option (List ℕ) → Result Action RuleRefusal
or_bad_action named None = Err BadAction
or_bad_action named (Some name) = named name

abbrev pub action_from : Option ℕ → Option Data → Result Action RuleRefusal
action_from groups None = Err BadAction
action_from groups (Some action) = or_bad_action (λ name. action_named groups action name) (text_at (codes "type") action)

unfoldable pub action_in : Option ℕ → Option Data → Result Action RuleRefusal
action_in groups action = action_from groups action
