-- Lists that are given and not empty pass their tests.
use Rattle.std.proofs.Common.{◌≡◌, List, length, Bool, false, ◌&&◌, ◌==◌, Option, Some, None, is_some, Ok, refl, ap}
use Rattle.std.specs.Option.{option_map_or}
use Rattle.std.specs.List.{list_any}
use Rattle.dnr_spec.specs.HeaderTests.{HeaderTest}
use Rattle.rule_spec.specs.declared.rule_path.RulePath.{RulePath}
use Rattle.rule_spec.specs.declared.rule_path.RulePath.TheVariants as path
use Rattle.rule_spec.specs.declared.rule_refusal.RuleRefusal.TheVariants.{EmptyList, BothTypeLists}
use Rattle.json_spec.specs.RuleFields.{refused_if, Fields}
use Rattle.json_spec.specs.ReadRule.{empty_test, lists_no_value, empty_values_test, lists_in}

-- it is given, and empty
abbrev pub is_empty : {X : Type 0} → Option (List X) → Bool
is_empty given = option_map_or (λ list. length list == 0) given false

abbrev pub has_no_value : Option (List HeaderTest) → Bool
has_no_value tests = option_map_or (list_any lists_no_value) tests false

whole : {X : Type 0} (field : RulePath) (given : Option (List X)) → is_empty given ≡ false → empty_test field given ≡ None
whole field None h = refl
whole field (Some list) h = ap (λ b. refused_if b (EmptyList field)) h

values_whole : (field : RulePath) (tests : Option (List HeaderTest)) → has_no_value tests ≡ false → empty_values_test field tests ≡ None
values_whole field None h = refl
values_whole field (Some tests) h = ap (λ b. refused_if b (EmptyList field)) h

pub lists_pass : (f : Fields) → is_empty f.initiators ≡ false → is_empty f.old_initiators ≡ false → is_empty f.hosts ≡ false → is_empty f.kinds ≡ false
    → is_empty f.methods ≡ false → is_empty f.tabs ≡ false → is_empty f.header_tests ≡ false → has_no_value f.header_tests ≡ false → has_no_value f.not_header_tests ≡ false
    → (is_some f.kinds && is_some f.not_kinds) ≡ false → lists_in f ≡ Ok tt
unfolding lists_in
lists_pass f initiators old_initiators hosts kinds methods tabs tests values not_values both =
    let both_pass : refused_if (is_some f.kinds && is_some f.not_kinds) BothTypeLists ≡ None = ap (λ b. refused_if b BothTypeLists) both in
    rw (
      whole path.InitiatorDomains f.initiators initiators,
      whole path.Domains f.old_initiators old_initiators,
      whole path.RequestDomains f.hosts hosts,
      whole path.ResourceTypes f.kinds kinds,
      whole path.RequestMethods f.methods methods,
      whole path.TabIds f.tabs tabs,
      whole path.ResponseHeaders f.header_tests tests,
      values_whole path.ResponseHeaderValues f.header_tests values,
      values_whole path.ExcludedResponseHeaderValues f.not_header_tests not_values,
      both_pass,
    )
