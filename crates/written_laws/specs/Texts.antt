-- The texts that stand in a rule.
use Rattle.std.specs.Prelude.{ℕ, List, [], ◌∷◌, ◌++◌, flat_map, Option, Some, None, unwrap_or, option_to_list}
use Rattle.dnr_base.specs.declared.redirect.Redirect.{Redirect}
use Rattle.dnr_base.specs.declared.redirect.Redirect.TheVariants as redirect
use Rattle.dnr_base.specs.declared.transform.Transform.{Transform}
use Rattle.dnr_base.specs.declared.query_transform.QueryTransform.{QueryTransform}
use Rattle.dnr_base.specs.declared.query_pair.QueryPair.{QueryPair}
use Rattle.dnr_spec.specs.Headers.{HeaderOp}
use Rattle.dnr_spec.specs.HeaderTests.{HeaderTest}
use Rattle.rule_spec.specs.Rule.{Condition, Action, block, redirect, allow, upgrade_scheme, modify_headers, allow_all_requests, Rule}

abbrev pub test_texts : HeaderTest → List (List ℕ)
test_texts test = test.name ∷ (unwrap_or test.values [] ++ test.excluded)

abbrev pub tests_texts : Condition → List (List ℕ)
tests_texts c = flat_map test_texts (unwrap_or c.header_tests []) ++ flat_map test_texts c.not_header_tests

abbrev pub domain_texts : Condition → List (List ℕ)
domain_texts c = unwrap_or c.initiators [] ++ (c.not_initiators ++ (unwrap_or c.hosts [] ++ (c.not_hosts ++ tests_texts c)))

abbrev pub condition_texts : Condition → List (List ℕ)
condition_texts c = option_to_list c.url_filter ++ (option_to_list c.regex_filter ++ domain_texts c)

abbrev pub pair_texts : QueryPair → List (List ℕ)
pair_texts pair = pair.key ∷ pair.value ∷ []

abbrev pub changes_texts : Option QueryTransform → List (List ℕ)
changes_texts None = []
changes_texts (Some changes) = changes.remove ++ flat_map pair_texts changes.add

abbrev pub transform_texts : Transform → List (List ℕ)
transform_texts t =
    option_to_list t.host ++ (option_to_list t.port ++ (option_to_list t.path ++ (option_to_list t.query ++ (changes_texts t.query_transform
    ++ (option_to_list t.fragment ++ (option_to_list t.username ++ option_to_list t.password))))))

abbrev pub redirect_texts : Redirect → List (List ℕ)
redirect_texts (redirect.ExtensionPath path) = path ∷ []
redirect_texts (redirect.Transform transform) = transform_texts transform
redirect_texts (redirect.Url url) = url ∷ []
redirect_texts (redirect.RegexSubstitution text) = text ∷ []

abbrev pub op_texts : HeaderOp → List (List ℕ)
op_texts op = op.name ∷ option_to_list op.value

abbrev pub action_texts : Action → List (List ℕ)
action_texts block = []
action_texts (redirect target) = redirect_texts target
action_texts allow = []
action_texts upgrade_scheme = []
action_texts (modify_headers request response) = flat_map op_texts request ++ flat_map op_texts response
action_texts allow_all_requests = []

abbrev pub texts_of : Rule → List (List ℕ)
texts_of rule = condition_texts rule.condition ++ action_texts rule.action
