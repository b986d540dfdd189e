-- Changes of one direction.
use Rattle.std.proofs.Common.{◌≡◌, ℕ, List, [], ◌∷◌, ◌++◌, Bool, true, false, not, cond, filter, map, Option, Some, None, refl, sym, ap, ◌∙◌}
use Rattle.std.specs.Prelude.{slice_get}
use Rattle.std.specs.List.{cons_option}
use Rattle.dnr_base.specs.declared.direction.Direction.{Direction}
use Rattle.dnr_base.specs.declared.direction.Direction.TheVariants as direction
use Rattle.dnr_spec.specs.Headers.{is_same_direction}
use Rattle.rule_spec.specs.Scan.{NamedOp, Offer, is_on, is_on_request, named_op}
use Rattle.generation.specs.Choice.{op_on, ops_at, ops_of}

request_case : (other : Direction) → is_on_request other ≡ is_same_direction direction.Request other
request_case direction.Request = refl
request_case direction.Response = refl

response_case : (other : Direction) → not (is_on_request other) ≡ is_same_direction direction.Response other
response_case direction.Request = refl
response_case direction.Response = refl

pub on_is : (d : Direction) (op : NamedOp) → is_on d op ≡ is_same_direction d op.direction
on_is direction.Request op = request_case op.direction
on_is direction.Response op = response_case op.direction

offer_case : (d : Direction) (o : Option Offer) → ops_of d o ≡ filter (is_on d) (map named_op (cons_option o []))
offer_case d None = refl
offer_case d (Some offer) = ap (λ b. cond b (named_op offer ∷ []) []) (sym (on_is d (named_op offer)))

pub at_is : (d : Direction) (offers : List Offer) (place : ℕ) (o : Option Offer) → o ≡ slice_get offers place → ops_of d o ≡ ops_at d offers (place ∷ [])
at_is d offers place o h = offer_case d o ∙ ap (λ p. filter (is_on d) (map named_op (cons_option p []))) h

one_case : (b : Bool) (op : NamedOp) (ops : List NamedOp) → map (λ o. o.op) (cond b (op ∷ ops) ops) ≡ cond b (op.op ∷ []) [] ++ map (λ o. o.op) ops
one_case true op ops = refl
one_case false op ops = refl

pub op_each : (d : Direction) (op : NamedOp) (ops : List NamedOp) → map (λ o. o.op) (filter (is_on d) (op ∷ ops)) ≡ op_on d op ++ map (λ o. o.op) (filter (is_on d) ops)
op_each d op ops = one_case (is_on d op) op (filter (is_on d) ops)
