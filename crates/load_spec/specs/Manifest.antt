-- The static rulesets that an extension's manifest names, and what it may touch: Chrome's reference of
-- declarativeNetRequest, `declarative_net_request.rule_resources`, and `host_permissions`. Keys that are not known are
-- ignored, and the first field at fault is named.
use Rattle.std.specs.Prelude.{ℕ, List, [], ◌∷◌, ◌++◌, length, slice_index, codes, Bool, true, not, ◌==◌, ◌&&◌, nat_lt, nat_le, Option, Some, None, is_some, option_map, option_and_then, ok_or, Result, Ok, Err, if◌then◌else◌}
use Rattle.std.specs.List.{list_any, slice_split}
use Rattle.std.specs.Str.{bytes_eq}
use Rattle.serde_json.specs.Data.{Data, Items, no_items, item, Members}
use Rattle.serde_json.specs.Find.{get, as_array, as_bool, as_object}
use Rattle.load_spec.specs.declared.manifest_path.ManifestPath.{ManifestPath}
use Rattle.load_spec.specs.declared.manifest_path.ManifestPath.TheVariants as path
use Rattle.json_spec.specs.Json.{tree_of, text_at}
use Rattle.json_spec.specs.RuleFields.{as_texts}
use Rattle.load_spec.specs.ManifestPath.{path_name}

-- a static ruleset as the manifest names it: its id, whether it is enabled, and the file of its rules
pub record Resource : Type 0 where
  pub id : List ℕ
  pub enabled : Bool
  pub path : List ℕ

-- goes on with what was read, or stops at the field at fault
abbrev pub and_then : {X Y : Type 0} → Result X ManifestPath → (X → Result Y ManifestPath) → Result Y ManifestPath
and_then (Ok x) go_on = go_on x
and_then (Err field) go_on = Err field

-- what passes a test
abbrev pub passing : {X : Type 0} → (X → Bool) → X → Option X
passing test x = if test x then Some x else None

-- ---- the fields of a resource

abbrev pub has_text : List (List ℕ) → List ℕ → Bool
has_text texts text = list_any (λ other. bytes_eq text other) texts

-- an id has 1 to 256 bytes; those that begin with `_` are kept for dynamic and session rules
abbrev pub is_set_id : List ℕ → Bool
is_set_id id = nat_lt 0 (length id) && nat_le (length id) 256 && not (slice_index id 0 == 95)

-- an id that none of the earlier resources has
abbrev pub is_new_id : List (List ℕ) → List ℕ → Bool
is_new_id earlier id = is_set_id id && not (has_text earlier id)

unfoldable pub id_in : List (List ℕ) → Data → Result (List ℕ) ManifestPath
id_in earlier d = ok_or (option_and_then (passing (is_new_id earlier)) (text_at (path_name path.Id) d)) path.Id

unfoldable pub enabled_in : Data → Result Bool ManifestPath
enabled_in d = ok_or (option_and_then as_bool (get (path_name path.Enabled) d)) path.Enabled

-- some part of it between slashes is `..`
abbrev pub goes_up : List ℕ → Bool
goes_up text = list_any (λ segment. bytes_eq segment (codes "..")) (slice_split (λ b. b == 47) text)

-- A path stays in the extension's folder: it is not empty, does not begin with `/`, has no `\` and no part `..`.
abbrev pub is_inside : List ℕ → Bool
is_inside text = nat_lt 0 (length text) && not (slice_index text 0 == 47) && not (list_any (λ b. b == 92) text) && not (goes_up text)

unfoldable pub path_in : Data → Result (List ℕ) ManifestPath
path_in d = ok_or (option_and_then (passing is_inside) (text_at (path_name path.Path) d)) path.Path

-- the resource behind others of these ids
unfoldable pub resource_in : List (List ℕ) → Data → Result Resource ManifestPath
resource_in earlier d =
    and_then (id_in earlier d) (λ id.
    and_then (enabled_in d) (λ enabled.
    and_then (path_in d) (λ text.
    Ok (record { id = id; enabled = enabled; path = text }))))

-- ---- the list of resources

-- the resources behind others of these ids, or the first field at fault
abbrev pub resources_in : List (List ℕ) → Items → Result (List Resource) ManifestPath
resources_in earlier no_items = Ok []
resources_in earlier (item d items) =
    and_then (resource_in earlier d) (λ first.
    and_then (resources_in (earlier ++ first.id ∷ []) items) (λ others. Ok (first ∷ others)))

-- each element is an object
abbrev pub are_objects : Items → Bool
are_objects no_items = true
are_objects (item d items) = is_some (as_object d) && are_objects items

-- a list of objects alone
abbrev pub resources_from : Option Items → Result (List Resource) ManifestPath
resources_from None = Err path.RuleResources
resources_from (Some items) = if are_objects items then resources_in [] items else Err path.RuleResources

-- the resources of the list that is given, if one is
abbrev pub resources_given : Option Data → Result (List Resource) ManifestPath
resources_given None = Ok []
resources_given (Some d) = resources_from (as_array d)

-- those of `declarative_net_request`, which is an object
abbrev pub requests_from : Data → Option Members → Result (List Resource) ManifestPath
requests_from d None = Err path.DeclarativeNetRequest
requests_from d (Some _) = resources_given (get (path_name path.RuleResources) d)

abbrev pub requests_given : Option Data → Result (List Resource) ManifestPath
requests_given None = Ok []
requests_given (Some d) = requests_from d (as_object d)

-- ---- access

-- the texts of match patterns, if their list is given
abbrev pub access_given : Option Data → Result (Option (List (List ℕ))) ManifestPath
access_given None = Ok None
access_given (Some d) = ok_or (option_map Some (as_texts d)) path.HostPermissions

unfoldable pub access_in : Data → Result (Option (List (List ℕ))) ManifestPath
access_in d = access_given (get (path_name path.HostPermissions) d)

-- ---- the manifest

-- what a manifest names: rulesets, and the match patterns of what the extension may touch, if it is restricted
pub record Manifest : Type 0 where
  pub resources : List Resource
  pub access : Option (List (List ℕ))

-- the rulesets that a manifest names, if it speaks of requests
abbrev pub rulesets_in : Data → Result (List Resource) ManifestPath
rulesets_in d = requests_given (get (path_name path.DeclarativeNetRequest) d)

abbrev pub manifest_from : Data → Option Members → Result Manifest ManifestPath
manifest_from d None = Err path.Manifest
manifest_from d (Some _) =
    and_then (rulesets_in d) (λ resources.
    and_then (access_in d) (λ access. Ok (record { resources = resources; access = access })))

-- the manifest of a tree, or its first field at fault
unfoldable pub manifest_in : Data → Result Manifest ManifestPath
manifest_in d = manifest_from d (as_object d)

-- ---- the whole

-- why a manifest is refused: it is no JSON, or this field is at fault
pub data ManifestFault : Type 0 where
  no_json : ManifestFault
  at : ManifestPath → ManifestFault

abbrev pub or_fault : {X : Type 0} → Result X ManifestPath → Result X ManifestFault
or_fault (Ok x) = Ok x
or_fault (Err field) = Err (at field)

abbrev pub manifest_of_tree : Option Data → Result Manifest ManifestFault
manifest_of_tree None = Err no_json
manifest_of_tree (Some d) = or_fault (manifest_in d)

-- the manifest of these bytes, or why it is refused
unfoldable pub manifest_of : List ℕ → Result Manifest ManifestFault
manifest_of bytes = manifest_of_tree (tree_of bytes)
