-- A test that fails refuses the whole, where those before it pass.
use Rattle.std.proofs.Common.{◌≡◌, List, ◌∷◌, Result, Err, Option, ap, ◌∙◌}
use Rattle.rule_spec.specs.declared.rule_refusal.RuleRefusal.{RuleRefusal}
use Rattle.rule_spec.specs.declared.rule_refusal.RuleRefusal.TheVariants.{HostFault, NoMemory}
use Rattle.json_spec.specs.RuleFields.{first_refusal, refusal_in, unless_refused}
use Rattle.json_spec.specs.MayRefuse.{MayRefuse, RefusesTest}

pub refused_on : {X Y : Type 0} (part : Result X RuleRefusal) (rest : List (Option RuleRefusal)) (whole : Y) (fault : Type 0) (refusal : RuleRefusal) → MayRefuse part fault refusal → MayRefuse (unless_refused (first_refusal (refusal_in part ∷ rest)) whole) fault refusal
refused_on part rest whole fault HostFault h = h
refused_on part rest whole fault NoMemory h = h
refused_on part rest whole fault refusal h = ap (λ p. unless_refused (first_refusal (refusal_in p ∷ rest)) whole) h

pub test_refused_on : {Y : Type 0} (test : Option RuleRefusal) (rest : List (Option RuleRefusal)) (whole : Y) (fault : Type 0) (refusal : RuleRefusal) → RefusesTest test fault refusal → MayRefuse (unless_refused (first_refusal (test ∷ rest)) whole) fault refusal
test_refused_on test rest whole fault HostFault h = h
test_refused_on test rest whole fault NoMemory h = h
test_refused_on test rest whole fault refusal h = ap (λ t. unless_refused (first_refusal (t ∷ rest)) whole) h

-- what a reading is refused for, refuses what is made of it
pub refused_through : {X Y : Type 0} (part : Result X RuleRefusal) (made : Result X RuleRefusal → Result Y RuleRefusal) (fault : Type 0) → ((refusal : RuleRefusal) → made (Err refusal) ≡ Err refusal) → (refusal : RuleRefusal) → MayRefuse part fault refusal → MayRefuse (made part) fault refusal
refused_through part made fault through HostFault h = h
refused_through part made fault through NoMemory h = h
refused_through part made fault through refusal h = ap made h ∙ through _
