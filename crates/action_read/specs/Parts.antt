-- The forms of the texts of a redirect.
use Rattle.std.specs.Prelude.{ℕ, List, Bool, true}
use Rattle.rule_spec.specs.Redirects.{is_new_host, is_new_port, is_new_path, is_new_query, is_new_fragment, is_extension_path}
use Rattle.action_read.specs.declared.transforms.Part.{Part}
use Rattle.action_read.specs.declared.transforms.Part.TheVariants.{ExtensionPath, Host, Port, Path, Query, Fragment, Other}

abbrev pub test_of : Part → (List ℕ → Bool)
test_of ExtensionPath = is_extension_path
test_of Host = is_new_host
test_of Port = is_new_port
test_of Path = is_new_path
test_of Query = is_new_query
test_of Fragment = is_new_fragment
test_of Other = λ text. true
