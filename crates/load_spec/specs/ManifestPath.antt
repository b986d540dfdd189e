-- The fields of a manifest that a fault of it names.
use Rattle.std.specs.Prelude.{ℕ, List, codes}
use Rattle.load_spec.specs.declared.manifest_path.ManifestPath.{ManifestPath}
use Rattle.load_spec.specs.declared.manifest_path.ManifestPath.TheVariants as path

-- the key under which a field stands; the whole is `manifest`
abbrev pub path_name : ManifestPath → List ℕ
path_name path.Manifest = codes "manifest"
path_name path.DeclarativeNetRequest = codes "declarative_net_request"
path_name path.RuleResources = codes "rule_resources"
path_name path.Id = codes "id"
path_name path.Enabled = codes "enabled"
path_name path.Path = codes "path"
path_name path.HostPermissions = codes "host_permissions"
