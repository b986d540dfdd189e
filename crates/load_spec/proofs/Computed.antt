-- The examples are computed.
use Rattle.std.specs.Prelude.{refl}
use Rattle.std.specs.Str.{is_utf8}
use Rattle.url.proofs.OnLiterals.{url_on_literals}
use Rattle.serde_json.proofs.OnLiterals.{serde_json_on_literals}
use Rattle.load_spec.specs.Manifest.{id_in, enabled_in, path_in, resource_in, access_in, manifest_in, manifest_of}
use Rattle.load_spec.specs.Examples.{NoResourcesAreNone, ResourcesKeepTheirOrder, OutermostFaultIsNamed, FieldsComeInOrder, PathsStayInside, AccessComesLast}

pub no_resources_are_none : NoResourcesAreNone
unfolding url_on_literals serde_json_on_literals is_utf8 id_in enabled_in path_in resource_in access_in manifest_in manifest_of
no_resources_are_none = (refl, refl, refl, refl)

pub resources_keep_their_order : ResourcesKeepTheirOrder
unfolding url_on_literals serde_json_on_literals is_utf8 id_in enabled_in path_in resource_in access_in manifest_in manifest_of
resources_keep_their_order = refl

pub outermost_fault_is_named : OutermostFaultIsNamed
unfolding url_on_literals serde_json_on_literals is_utf8 id_in enabled_in path_in resource_in access_in manifest_in manifest_of
outermost_fault_is_named = (refl, refl, refl, refl, refl)

pub fields_come_in_order : FieldsComeInOrder
unfolding url_on_literals serde_json_on_literals is_utf8 id_in enabled_in path_in resource_in access_in manifest_in manifest_of
fields_come_in_order = (refl, refl, refl, refl)

pub paths_stay_inside : PathsStayInside
unfolding url_on_literals serde_json_on_literals is_utf8 id_in enabled_in path_in resource_in access_in manifest_in manifest_of
paths_stay_inside = (refl, refl, refl, refl, refl)

pub access_comes_last : AccessComesLast
unfolding url_on_literals serde_json_on_literals is_utf8 id_in enabled_in path_in resource_in access_in manifest_in manifest_of
access_comes_last = (refl, refl, refl, refl)
