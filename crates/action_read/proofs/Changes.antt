-- The header changes of an action: what refuses them, and what they are where nothing does.
use Rattle.std.proofs.Common.{◌≡◌, ℕ, List, [], ◌∷◌, length, ◌==◌, Option, Some, None, refl, ap, ◌∙◌, tests, rules}
use Rattle.std.specs.Prelude.{Result, Ok, Err}
use Rattle.serde_json.specs.declared.value.Value.{Value}
use Rattle.serde_json.specs.View.{items_view}
use Rattle.dnr_spec.specs.Headers.{HeaderOp}
use Rattle.rule_spec.specs.declared.rule_refusal.RuleRefusal.{RuleRefusal}
use Rattle.rule_spec.specs.declared.rule_refusal.RuleRefusal.TheVariants.{HostFault, NoMemory}
use Rattle.json_spec.specs.RuleAction.{Change, is_no_item, or_bad_shape, modifying, modify_from}
use Rattle.json_spec.specs.MayRefuse.{IsRefused}

no_item-length : (values : List Value) → (length values == 0) ≡ is_no_item (items_view values)
no_item-length [] = refl
no_item-length (value ∷ values) = search (tests, rules)

pub no_item : (values : List Value) (count : ℕ) → count ≡ length values → (count == 0) ≡ is_no_item (items_view values)
no_item values count is = ap (λ n. n == 0) is ∙ no_item-length values

pub request_shape_refused : (request response : Option (List Change)) (refusal : RuleRefusal) → IsRefused (or_bad_shape request) refusal → IsRefused (modify_from request response) refusal
request_shape_refused None response HostFault h = h
request_shape_refused None response NoMemory h = h
request_shape_refused None response refusal h = cc
request_shape_refused (Some changes) response HostFault h = h
request_shape_refused (Some changes) response NoMemory h = h
request_shape_refused (Some changes) response refusal h = absurd (cc)

pub response_shape_refused : (request : List Change) (response : Option (List Change)) (refusal : RuleRefusal) → IsRefused (or_bad_shape response) refusal → IsRefused (modify_from (Some request) response) refusal
response_shape_refused request None HostFault h = h
response_shape_refused request None NoMemory h = h
response_shape_refused request None refusal h = cc
response_shape_refused request (Some changes) HostFault h = h
response_shape_refused request (Some changes) NoMemory h = h
response_shape_refused request (Some changes) refusal h = absurd (cc)

pub request_refused : (request response : Result (List HeaderOp) RuleRefusal) (refusal : RuleRefusal) → IsRefused request refusal → IsRefused (modifying request response) refusal
request_refused (Err cause) response HostFault h = h
request_refused (Err cause) response NoMemory h = h
request_refused (Err cause) response refusal h = cc
request_refused (Ok ops) response HostFault h = h
request_refused (Ok ops) response NoMemory h = h
request_refused (Ok ops) response refusal h = absurd (cc)

pub response_refused : (request : List HeaderOp) (response : Result (List HeaderOp) RuleRefusal) (refusal : RuleRefusal) → IsRefused response refusal → IsRefused (modifying (Ok request) response) refusal
response_refused request (Err cause) HostFault h = h
response_refused request (Err cause) NoMemory h = h
response_refused request (Err cause) refusal h = cc
response_refused request (Ok ops) HostFault h = h
response_refused request (Ok ops) NoMemory h = h
response_refused request (Ok ops) refusal h = absurd (cc)
