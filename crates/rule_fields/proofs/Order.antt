-- A test that fails refuses those that it stands before.
use Rattle.std.proofs.Common.{◌≡◌, List, [], ◌∷◌, ◌++◌, Result, Option, Some, None, refl, ap}
use Rattle.rule_spec.specs.declared.rule_refusal.RuleRefusal.{RuleRefusal}
use Rattle.rule_spec.specs.declared.rule_refusal.RuleRefusal.TheVariants.{HostFault, NoMemory}
use Rattle.json_spec.specs.RuleFields.{first_refusal, refusal_in, unless_refused}
use Rattle.json_spec.specs.MayRefuse.{MayRefuse, RefusesTest}

pub test_refused : {X : Type 0} (part : Result X RuleRefusal) (rest : List (Option RuleRefusal)) (fault : Type 0) (refusal : RuleRefusal) → MayRefuse part fault refusal → RefusesTest (first_refusal (refusal_in part ∷ rest)) fault refusal
test_refused part rest fault HostFault h = h
test_refused part rest fault NoMemory h = h
test_refused part rest fault refusal h = ap (λ p. first_refusal (refusal_in p ∷ rest)) h

refused_first : (tests rest : List (Option RuleRefusal)) (refusal : RuleRefusal) → first_refusal tests ≡ Some refusal → first_refusal (tests ++ rest) ≡ Some refusal
refused_first [] rest refusal h = absurd (cc)
refused_first (None ∷ tests) rest refusal h = refused_first tests rest refusal h
refused_first (Some first ∷ tests) rest refusal h = h

passed_first : (before rest : List (Option RuleRefusal)) → first_refusal before ≡ None → first_refusal (before ++ rest) ≡ first_refusal rest
passed_first [] rest h = refl
passed_first (None ∷ before) rest h = passed_first before rest h
passed_first (Some first ∷ before) rest h = absurd (cc)

first_group : {Y : Type 0} (tests rest : List (Option RuleRefusal)) (whole : Y) (fault : Type 0) (refusal : RuleRefusal) → RefusesTest (first_refusal tests) fault refusal → MayRefuse (unless_refused (first_refusal (tests ++ rest)) whole) fault refusal
first_group tests rest whole fault HostFault h = h
first_group tests rest whole fault NoMemory h = h
first_group tests rest whole fault refusal h = ap (λ t. unless_refused t whole) (refused_first tests rest _ h)

pub group_refused : {Y : Type 0} (before tests rest : List (Option RuleRefusal)) (whole : Y) (fault : Type 0) (refusal : RuleRefusal) → first_refusal before ≡ None → RefusesTest (first_refusal tests) fault refusal → MayRefuse (unless_refused (first_refusal (before ++ (tests ++ rest))) whole) fault refusal
group_refused before tests rest whole fault refusal passed h = rw (passed_first before (tests ++ rest) passed) (first_group tests rest whole fault refusal h)
