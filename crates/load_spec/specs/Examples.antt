-- Examples of manifests, each computed from the definitions alone.
use Rattle.std.specs.Prelude.{◌≡◌, ℕ, List, [], ◌∷◌, ◌++◌, codes, true, false, Some, None, Ok, Err}
use Rattle.load_spec.specs.declared.manifest_path.ManifestPath.TheVariants as path
use Rattle.load_spec.specs.Manifest.{Resource, Manifest, no_json, at, manifest_of}

-- ---- manifests

-- a manifest with this list of resources
abbrev pub naming : List ℕ → List ℕ
naming resources = codes "{\"declarative_net_request\":{\"rule_resources\":" ++ resources ++ codes "}}"

-- a resource `ads`, enabled, of this path
abbrev pub ads_at : List ℕ → List ℕ
ads_at text = codes "{\"id\":\"ads\",\"enabled\":true,\"path\":\"" ++ text ++ codes "\"}"

abbrev pub ads : List ℕ → Resource
ads text = record { id = codes "ads"; enabled = true; path = text }

-- a manifest that names these resources alone
abbrev pub only : List Resource → Manifest
only resources = record { resources = resources; access = None }

-- A manifest without rulesets names none; keys that are not known are ignored.
abbrev pub NoResourcesAreNone : Type 0
NoResourcesAreNone =
    (manifest_of (codes "{}") ≡ Ok (only []))
    × (manifest_of (codes "{\"declarative_net_request\":{}}") ≡ Ok (only []))
    × (manifest_of (naming (codes "[]")) ≡ Ok (only []))
    × (manifest_of (codes "{\"name\":\"Shop\",\"manifest_version\":3}") ≡ Ok (only []))

-- Resources stand in the order of the manifest.
abbrev pub ResourcesKeepTheirOrder : Type 0
ResourcesKeepTheirOrder =
    manifest_of (naming (codes "[" ++ ads_at (codes "b/ads.json") ++ codes ",{\"id\":\"extra\",\"enabled\":false,\"path\":\"extra.json\"}]"))
    ≡ Ok (only (ads (codes "b/ads.json") ∷ record { id = codes "extra"; enabled = false; path = codes "extra.json" } ∷ []))

-- The outermost part at fault is named first, and null is no object.
abbrev pub OutermostFaultIsNamed : Type 0
OutermostFaultIsNamed =
    (manifest_of (codes "[") ≡ Err no_json)
    × (manifest_of (codes "[]") ≡ Err (at path.Manifest))
    × (manifest_of (codes "{\"declarative_net_request\":null}") ≡ Err (at path.DeclarativeNetRequest))
    × (manifest_of (naming (codes "{}")) ≡ Err (at path.RuleResources))
    × (manifest_of (naming (codes "[{\"id\":1},7]")) ≡ Err (at path.RuleResources))

-- Of a resource the id comes first, then `enabled`, then the path; an id stands once.
abbrev pub FieldsComeInOrder : Type 0
FieldsComeInOrder =
    (manifest_of (naming (codes "[{\"id\":\"_a\"}]")) ≡ Err (at path.Id))
    × (manifest_of (naming (codes "[{\"id\":\"a\",\"enabled\":1}]")) ≡ Err (at path.Enabled))
    × (manifest_of (naming (codes "[{\"id\":\"a\",\"enabled\":true}]")) ≡ Err (at path.Path))
    × (manifest_of (naming (codes "[" ++ ads_at (codes "a.json") ++ codes "," ++ ads_at (codes "b.json") ++ codes "]")) ≡ Err (at path.Id))

-- A path stays in the folder of its extension.
abbrev pub PathsStayInside : Type 0
PathsStayInside =
    (manifest_of (naming (codes "[" ++ ads_at [] ++ codes "]")) ≡ Err (at path.Path))
    × (manifest_of (naming (codes "[" ++ ads_at (codes "/etc/passwd") ++ codes "]")) ≡ Err (at path.Path))
    × (manifest_of (naming (codes "[" ++ ads_at (codes "a/../../b") ++ codes "]")) ≡ Err (at path.Path))
    × (manifest_of (naming (codes "[" ++ ads_at (codes "a\\\\b") ++ codes "]")) ≡ Err (at path.Path))
    × (manifest_of (naming (codes "[" ++ ads_at (codes "./a..b/...") ++ codes "]")) ≡ Ok (only (ads (codes "./a..b/...") ∷ [])))

-- Match patterns are kept as they stand, and are the last to be tested.
abbrev pub AccessComesLast : Type 0
AccessComesLast =
    (manifest_of (codes "{\"host_permissions\":[\"*://*.x.com/*\",\"?\"]}")
    ≡ Ok (record { resources = []; access = Some (codes "*://*.x.com/*" ∷ codes "?" ∷ []) }))
    × (manifest_of (codes "{\"host_permissions\":[]}") ≡ Ok (record { resources = []; access = Some [] }))
    × (manifest_of (codes "{\"host_permissions\":null}") ≡ Err (at path.HostPermissions))
    × (manifest_of (codes "{\"host_permissions\":[1],\"declarative_net_request\":[]}") ≡ Err (at path.DeclarativeNetRequest))
