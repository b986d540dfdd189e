-- The tests of a transform, one after the other.
use Rattle.std.proofs.Common.{◌≡◌, true, false, List, [], ◌∷◌, Option, Some, None, refl, sym, ap, subst, ◌∙◌}
use Rattle.std.specs.Prelude.{Result, Ok, Err, is_some, is_none}
use Rattle.serde_json.specs.Data.{Data}
use Rattle.dnr_base.specs.declared.transform.Transform.{Transform}
use Rattle.rule_spec.specs.declared.rule_refusal.RuleRefusal.{RuleRefusal}
use Rattle.rule_spec.specs.declared.rule_refusal.RuleRefusal.TheVariants.{BadTransform}
use Rattle.json_spec.specs.RuleFields.{first_refusal, refused_if, refusal_in, unless_refused}
use Rattle.json_spec.specs.RuleAction.{transform_tests, transform_of, transform_in}
use Rattle.json_spec.specs.MayRefuse.{IsRefused}
use Rattle.json_spec.proofs.Refused.{refused_on}

-- the tests before these let the transform pass
pub record Passes (d : Data) (tests : List (Option RuleRefusal)) : Type 0 where
  pub same : transform_in d ≡ unless_refused (first_refusal tests) (transform_of d)

pub tests_begin : (d : Data) → Passes d (transform_tests d)
unfolding transform_in
tests_begin d = record { same = refl }

pub passes_test : {d : Data} {test : Option RuleRefusal} {rest : List (Option RuleRefusal)} → test ≡ None → Passes d (test ∷ rest) → Passes d rest
passes_test {d} {test} {rest} none so_far =
    record { same = so_far.same ∙ ap (λ t. unless_refused (first_refusal (t ∷ rest)) (transform_of d)) none }

pub passes_part : {X : Type 0} {d : Data} {part : Result X RuleRefusal} {x : X} {rest : List (Option RuleRefusal)} → part ≡ Ok x → Passes d (refusal_in part ∷ rest) → Passes d rest
passes_part {X} {d} {part} {x} {rest} read so_far =
    record { same = so_far.same ∙ ap (λ p. unless_refused (first_refusal (refusal_in p ∷ rest)) (transform_of d)) read }

pub fails_test : {d : Data} {test : Option RuleRefusal} {rest : List (Option RuleRefusal)} {refusal : RuleRefusal} → test ≡ Some refusal → Passes d (test ∷ rest) → transform_in d ≡ Err refusal
fails_test {d} {test} {rest} some so_far =
    so_far.same ∙ ap (λ t. unless_refused (first_refusal (t ∷ rest)) (transform_of d)) some

pub fails_part : {X : Type 0} {d : Data} {rest : List (Option RuleRefusal)} (part : Result X RuleRefusal) (refusal : RuleRefusal) → Passes d (refusal_in part ∷ rest) → IsRefused part refusal → IsRefused (transform_in d) refusal
fails_part {X} {d} {rest} part refusal so_far refused =
    subst (λ (whole : Result Transform RuleRefusal). IsRefused whole refusal) (sym so_far.same)
    (refused_on part rest (transform_of d) ⊥ refusal refused)

pub tests_end : {d : Data} → Passes d [] → transform_in d ≡ Ok (transform_of d)
tests_end so_far = so_far.same

pub object_passes : {X : Type 0} (o : Option X) → is_some o ≡ true → refused_if (is_none o) BadTransform ≡ None
object_passes None some = absurd (cc)
object_passes (Some x) some = refl

pub other_fails : {X : Type 0} (o : Option X) → is_some o ≡ false → refused_if (is_none o) BadTransform ≡ Some BadTransform
other_fails None none = refl
other_fails (Some x) none = absurd (cc)
