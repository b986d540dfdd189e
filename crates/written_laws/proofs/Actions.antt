-- Written actions are read as they are.
use Rattle.std.proofs.Common.{◌≡◌, ℕ, ◌+◌, ◌<◌, List, [], ◌∷◌, length, map, false, ◌&&◌, Option, Some, None, Ok, Err, refl, ap, ◌∙◌, arith}
use Rattle.std.specs.Prelude.{codes, option_map, option_and_then, if◌then◌else◌}
use Rattle.serde_json.specs.Data.{string}
use Rattle.serde_json.specs.Find.{get, as_str}
use Rattle.serde_json.specs.View.{items_of}
use Rattle.dnr_base.specs.declared.direction.Direction.{Direction}
use Rattle.dnr_base.specs.declared.direction.Direction.TheVariants as direction
use Rattle.dnr_base.specs.declared.operation.Operation.{Operation}
use Rattle.dnr_base.specs.declared.operation.Operation.TheVariants.{Append, Set, Remove}
use Rattle.dnr_base.specs.declared.redirect.Redirect.{Redirect}
use Rattle.dnr_spec.specs.Headers.{HeaderOp}
use Rattle.header_actions.specs.Again.{ReadsAgain}
use Rattle.rule_spec.specs.declared.rule_refusal.RuleRefusal.TheVariants.{BadHeader}
use Rattle.rule_spec.specs.declared.rule_refusal.HeaderCause.TheVariants.{NoHeaders}
use Rattle.rule_spec.specs.Rule.{Condition, Action, block, redirect, allow, upgrade_scheme, modify_headers, allow_all_requests}
use Rattle.rule_spec.specs.Redirects.{IsRedirect}
use Rattle.rule_spec.specs.IsRule.{AreOperations, filter_groups, IsAction}
use Rattle.json_spec.specs.RuleFields.{each}
use Rattle.json_spec.specs.RuleAction.{redirecting, redirect_at, redirect_in, Change, operation_named, value_from, change_from, as_change, changes_at, with_op, ops_of, or_bad_op, ops_in, is_empty_list, modify_from, modifying, modify_in, action_named, or_bad_action, type_of, action_in}
use Rattle.json_spec.specs.Written.{unless_empty, redirect_written, operation_name, op_written, type_name, action_written}
use Rattle.written_laws.proofs.Objects.{found}
use Rattle.written_laws.proofs.Values.{op_fields, action_fields}
use Rattle.written_laws.proofs.Transforms.{redirect_read}

-- ---- header changes

abbrev change_of : HeaderOp → Change
change_of op = record { header = op.name; operation = op.operation; value = op.value }

operation-read : (operation : Operation) → operation_named (operation_name operation) ≡ Some operation
operation-read Append = refl
operation-read Set = refl
operation-read Remove = refl

value-read : (value : Option (List ℕ)) → value_from (option_map string value) ≡ Some value
value-read None = refl
value-read (Some text) = refl

change-read : (op : HeaderOp) → as_change (op_written op) ≡ Some (change_of op)
change-read op =
    let header = ap (option_and_then as_str) (found (codes "header") (op_fields op) (Some (string op.name)) refl) in
    let operation = ap (λ o. option_and_then operation_named (option_and_then as_str o)) (found (codes "operation") (op_fields op) (Some (string (operation_name op.operation))) refl)
    ∙ operation-read op.operation in
    let value = ap value_from (found (codes "value") (op_fields op) (option_map string op.value) refl) ∙ value-read op.value in
    λ i. change_from (header i) (operation i) (value i)

each-change : (ops : List HeaderOp) → each as_change (items_of (map op_written ops)) ≡ Some (map change_of ops)
each-change [] = refl
each-change (op ∷ ops) =
    ap (option_and_then (λ x. option_map (λ xs. x ∷ xs) (each as_change (items_of (map op_written ops))))) (change-read op)
    ∙ ap (option_map (λ xs. change_of op ∷ xs)) (each-change ops)

changes-read : (ops : List HeaderOp) → changes_at (unless_empty (map op_written ops)) ≡ Some (map change_of ops)
unfolding changes_at
changes-read [] = refl
changes-read (op ∷ ops) = each-change (op ∷ ops)

ops_of-read : ReadsAgain → (direction : Direction) (ops : List HeaderOp) → AreOperations direction ops → ops_of direction (map change_of ops) ≡ Ok ops
ops_of-read again direction [] are = refl
ops_of-read again direction (op ∷ ops) are =
    let first = again direction are.0.0 op.operation op.value op are.0.1 in
    let rest = ops_of-read again direction ops are.1 in
    λ i. with_op (first i) (rest i)

ops-read : ReadsAgain → (direction : Direction) (ops : List HeaderOp) → AreOperations direction ops → ops_in direction (map change_of ops) ≡ Ok ops
unfolding ops_in
ops-read again direction ops are = ap or_bad_op (ops_of-read again direction ops are)

some_change : (request response : List HeaderOp) → 0 < length request + length response
    → (is_empty_list (unless_empty (map op_written request)) && is_empty_list (unless_empty (map op_written response))) ≡ false
some_change [] [] h = absurd (omega arith)
some_change [] (op ∷ ops) h = refl
some_change (op ∷ ops) response h = refl

at-request : (request response : List HeaderOp) → get (codes "requestHeaders") (action_written (modify_headers request response)) ≡ unless_empty (map op_written request)
unfolding action_written
at-request request response = found (codes "requestHeaders") (action_fields (modify_headers request response)) (unless_empty (map op_written request)) refl

at-response : (request response : List HeaderOp) → get (codes "responseHeaders") (action_written (modify_headers request response)) ≡ unless_empty (map op_written response)
unfolding action_written
at-response request response = found (codes "responseHeaders") (action_fields (modify_headers request response)) (unless_empty (map op_written response)) refl

modify-read : ReadsAgain → (request response : List HeaderOp) → 0 < length request + length response → AreOperations direction.Request request → AreOperations direction.Response response
    → modify_in (action_written (modify_headers request response)) ≡ Ok (modify_headers request response)
unfolding modify_in
modify-read again request response some asked answered =
    let ask = at-request request response in
    let answer = at-response request response in
    (λ i. if is_empty_list (ask i) && is_empty_list (answer i) then Err (BadHeader NoHeaders) else modify_from (changes_at (ask i)) (changes_at (answer i)))
    ∙ (λ i. if some_change request response some i then Err (BadHeader NoHeaders) else modify_from (changes-read request i) (changes-read response i))
    ∙ (λ i. modifying (ops-read again direction.Request request asked i) (ops-read again direction.Response response answered i))

-- ---- the action

at-type : (action : Action) → get (codes "type") (action_written action) ≡ Some (string (type_name action))
unfolding action_written
at-type block = refl
at-type (redirect target) = found (codes "type") (action_fields (redirect target)) (Some (string (codes "redirect"))) refl
at-type allow = refl
at-type upgrade_scheme = refl
at-type (modify_headers request response) = found (codes "type") (action_fields (modify_headers request response)) (Some (string (codes "modifyHeaders"))) refl
at-type allow_all_requests = refl

pub type_read : (action : Action) → type_of (Some (action_written action)) ≡ Some (type_name action)
type_read action = ap (option_and_then as_str) (at-type action)

at-redirect : (target : Redirect) → get (codes "redirect") (action_written (redirect target)) ≡ Some (redirect_written target)
unfolding action_written
at-redirect target = found (codes "redirect") (action_fields (redirect target)) (Some (redirect_written target)) refl

redirect-read : (groups : Option ℕ) (target : Redirect) → IsRedirect groups target → redirect_in groups (action_written (redirect target)) ≡ Ok target
unfolding redirect_in
redirect-read groups target is = ap (redirect_at groups) (at-redirect target) ∙ redirect_read groups target is

named-read : ReadsAgain → (c : Condition) (action : Action) → IsAction c action → action_named (filter_groups c) (action_written action) (type_name action) ≡ Ok action
named-read again c block is = refl
named-read again c (redirect target) is = ap redirecting (redirect-read (filter_groups c) target is)
named-read again c allow is = refl
named-read again c upgrade_scheme is = refl
named-read again c (modify_headers request response) is = modify-read again request response is.0 is.1 is.2
named-read again c allow_all_requests is = refl

-- a written action is read as it is
pub action_read : ReadsAgain → (c : Condition) (action : Action) → IsAction c action → action_in (filter_groups c) (Some (action_written action)) ≡ Ok action
unfolding action_in
action_read again c action is =
    ap (or_bad_action (λ name. action_named (filter_groups c) (action_written action) name)) (type_read action) ∙ named-read again c action is
