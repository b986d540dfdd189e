-- A rule of which only what has its form was kept reads as the whole.
use Rattle.std.proofs.Common.{◌≡◌, ℕ, List, Option, Some, Bool, Result, Ok, Err, codes, refl, sym, ap, ◌∙◌, subst}
use Rattle.std.specs.Prelude.{IfOk, is_none, unwrap_or, option_and_then}
use Rattle.std.specs.Result.{result_unwrap_or}
use Rattle.json.specs.Token.{Token}
use Rattle.serde_json.specs.Data.{Data, null}
use Rattle.serde_json.specs.Find.{get, as_object, as_u64}
use Rattle.serde_json.specs.View.{view}
use Rattle.serde_json.specs.declared.value.Value.{Value}
use Rattle.rule_spec.specs.declared.rule_kind.RuleKind.{RuleKind}
use Rattle.json_spec.specs.RuleFields.{Fields, refusal_in, fields_in}
use Rattle.json_spec.specs.RuleAction.{type_of, action_in}
use Rattle.json_spec.specs.ReadRule.{rule_in, numbers_in, in_range, as_id, id_of, priority_from, priority_of, condition_at, no_fields, fields_at, groups_at, frames_in, IsAtPattern}
use Rattle.json_fields.specs.declared.tree.Fault.{Fault}
use Rattle.rule_parts.specs.declared.part.RulePart.TheVariants as part
use Rattle.rule_parts.specs.Parts.{KeptAs}
use Rattle.json_fields.specs.Last.{value_at}
use Rattle.rule_parts.specs.ReadsAs.{ReadsAs}
use Rattle.rule_parts.proofs.PartForms.{number_same, member_same, object_same}
use Rattle.rule_parts.proofs.PartFields.{fields_same}
use Rattle.rule_parts.proofs.PartActions.{named_same, action_same}

id_form_same : (n : ℕ) (d e : Data) → KeptAs n part.Number d e → as_id e ≡ as_id d
id_form_same n d e h = ap (λ x. option_and_then in_range (option_and_then as_u64 x)) (number_same n d e h)

id_same : (n : ℕ) (d e : Data) → KeptAs n part.Rule d e → id_of e ≡ id_of d
id_same n d e h = member_same part.Rule part.Number (codes "id") (option_and_then as_id) refl (λ _. refl) refl id_form_same n d e h

priority_same : (n : ℕ) (d e : Data) → KeptAs n part.Rule d e → priority_of e ≡ priority_of d
priority_same n d e h = member_same part.Rule part.Number (codes "priority") priority_from refl (λ _. refl) refl id_form_same n d e h

condition_same : (n : ℕ) (d e : Data) → KeptAs n part.Rule d e → fields_in (condition_at e) ≡ fields_in (condition_at d)
condition_same n d e h = member_same part.Rule part.Condition (codes "condition") (λ c. fields_in (unwrap_or c null)) refl (λ _. refl) refl fields_same n d e h

numbers_same : (is_taken : ℕ → Bool) (n : ℕ) (d e : Data) → KeptAs n part.Rule d e → numbers_in is_taken e ≡ numbers_in is_taken d
unfolding numbers_in
numbers_same is_taken n d e h =
    let object = object_same part.Rule is_none refl (λ _. refl) (λ a b. refl) n d e h in
    let condition = member_same part.Rule part.Condition (codes "condition") (λ c. is_none (as_object (unwrap_or c null))) refl (λ _. refl) refl (object_same part.Condition is_none refl (λ _. refl) (λ a b. refl)) n d e h in
    rw (object, id_same n d e h, priority_same n d e h, condition)

frames_by : (f : Fields) (a b : Option Data) → type_of a ≡ type_of b → frames_in a f ≡ frames_in b f
unfolding frames_in
frames_by f a b same = rw same

frames_same : (f : Fields) (n : ℕ) (d e : Data) → KeptAs n part.Rule d e → frames_in (get (codes "action") e) f ≡ frames_in (get (codes "action") d) f
frames_same f n d e h =
    frames_by f (get (codes "action") e) (get (codes "action") d) (member_same part.Rule part.Action (codes "action") type_of refl (λ _. refl) refl named_same n d e h)

rule_same : (kind : RuleKind) (is_taken : ℕ → Bool) (n : ℕ) (d e : Data) → KeptAs n part.Rule d e → rule_in kind is_taken e ≡ rule_in kind is_taken d
unfolding rule_in
rule_same kind is_taken n d e h =
    let numbers = numbers_same is_taken n d e h in
    let fields = condition_same n d e h in
    let frames = frames_same (fields_at d) n d e h in
    let action = member_same part.Rule part.Action (codes "action") (action_in (groups_at d)) refl (λ _. refl) refl (action_same (groups_at d)) n d e h in
    rw (numbers, fields, frames, action)

pub reads_as : (n : ℕ) (d e : Data) → KeptAs n part.Rule d e → ReadsAs e d
reads_as n d e h = record {
  rule = λ kind is_taken. rule_same kind is_taken n d e h;
  id = id_same n d e h;
  pattern = λ is_taken at. record {
    numbers = ap refusal_in (sym (numbers_same is_taken n d e h)) ∙ at.numbers;
    fields = ap refusal_in (sym (condition_same n d e h)) ∙ at.fields;
    filters = subst (λ f. IsAtPattern (result_unwrap_or f no_fields)) (condition_same n d e h) at.filters;
  };
}

pub kept_reads : (depth : ℕ) (ts rest : List Token) (result : Result Value Fault)
    → IfOk result (λ kept. (d : Data) × (value_at depth ts ≡ Some (d, rest)) × KeptAs depth part.Rule d (view kept)) → IfOk result (λ kept. (d : Data) × (value_at depth ts ≡ Some (d, rest)) × ReadsAs (view kept) d)
kept_reads depth ts rest (Ok kept) h = (h.0, h.1, reads_as depth h.0 (view kept) h.2)
kept_reads depth ts rest (Err fault) h = tt
