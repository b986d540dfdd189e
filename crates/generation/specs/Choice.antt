-- What becomes of a request, by what is kept of each extension.
use Rattle.std.specs.Prelude.{ℕ, List, [], ◌∷◌, ◌++◌, map, filter, fold, Bool, nat_le, Option, Some, None, option_map, slice_get, ⊤, if◌then◌else◌}
use Rattle.std.specs.List.{filter_map, flat_map}
use Rattle.dnr_base.specs.declared.direction.Direction.{Direction}
use Rattle.dnr_base.specs.declared.direction.Direction.TheVariants as direction
use Rattle.dnr_base.specs.declared.request.Request.{Request}
use Rattle.dnr_base.specs.declared.verb.Verb.{Verb}
use Rattle.dnr_base.specs.declared.verb.Verb.TheVariants as verb
use Rattle.dnr_spec.specs.Headers.{HeaderOp, is_same_direction}
use Rattle.dnr_spec.specs.Order.{prevails}
use Rattle.dnr_base.specs.declared.rule_name.RuleName.{RuleName}
use Rattle.rule_spec.specs.declared.outcome.Outcome.{Outcome}
use Rattle.rule_spec.specs.declared.outcome.Outcome.TheVariants as outcome
use Rattle.rule_spec.specs.Scan.{Decision, NamedOp, Offer, Verdict, decided_target, decision_of, in_order, is_on, name_of, named_op, offers_in, plain_verdict, taking_effect, winner_seen, with_ops}
use Rattle.rule_spec.specs.State.{Live}
use Rattle.generation.specs.Kept.{Found, Kept, better_of}
use Rattle.generation.specs.Refused.{IsPattern}

-- ---- which rule decides

abbrev pub decision_by : List ℕ → ℕ → Found → Decision
decision_by name age found = decision_of name age (found.live, found.candidate)

abbrev pub decision_in : Kept → Option Decision
decision_in kept = option_map (decision_by kept.name kept.age) kept.best

abbrev pub goes_before : Decision → Decision → Bool
goes_before a b = prevails (winner_seen a) (winner_seen b)

-- the better of what is kept and what one more extension says, if it says anything
abbrev pub with_decision : Option Decision → Option Decision → Option Decision
with_decision best None = best
with_decision best (Some next) = better_of goes_before best next

abbrev pub deciding_in : List Kept → Option Decision
deciding_in kepts = fold (better_of goes_before) None (filter_map decision_in kepts)

-- ---- header operations

-- the rules of an extension that change headers, the strongest first, without those that an `allow` outdoes
abbrev pub changing_in : Kept → List Live
changing_in kept = in_order (filter (λ live. nat_le kept.allowed live.rule.priority) kept.changing)

-- the rule, unless an `allow` outdoes it
abbrev pub unless_outdone : ℕ → Live → List Live
unless_outdone allowed live = if nat_le allowed live.rule.priority then live ∷ [] else []

abbrev pub offers_by_live : Kept → Live → List Offer
offers_by_live kept live = offers_in kept.age (name_of kept.name live) live.rule.action

abbrev pub offers_by_kept : Kept → List Offer
offers_by_kept kept = flat_map (offers_by_live kept) (changing_in kept)

-- what all offer, the newest extension first
abbrev pub offers_by_all : List Kept → List Offer
offers_by_all [] = []
offers_by_all (kept ∷ kepts) = offers_by_all kepts ++ offers_by_kept kept

-- those of a direction among the offers at these places
abbrev pub ops_at : Direction → List Offer → List ℕ → List NamedOp
ops_at direction offers places = filter (is_on direction) (map named_op (filter_map (λ place. slice_get offers place) places))

-- the change that is offered, if it is of this direction
abbrev pub ops_of : Direction → Option Offer → List NamedOp
ops_of direction None = []
ops_of direction (Some offer) = if is_same_direction direction offer.direction then named_op offer ∷ [] else []

-- the change, if it is of this direction
abbrev pub op_on : Direction → NamedOp → List HeaderOp
op_on direction op = if is_on direction op then op.op ∷ [] else []

abbrev pub ops_by : List Offer → List NamedOp
ops_by offers =
    filter (is_on direction.Request) (map named_op (taking_effect offers))
    ++ filter (is_on direction.Response) (map named_op (taking_effect offers))

abbrev pub ops_in : List Kept → List NamedOp
ops_in kepts = ops_by (offers_by_all kepts)

-- ---- the verdict

-- the verdict of a rule that sends the request elsewhere
abbrev pub sent : Outcome → Request → Decision → Verdict
sent outcome request decision =
    plain_verdict outcome (Some (name_of decision.extension decision.live)) (decided_target decision decision.live.rule.action request)

abbrev pub IsSettled : Verb → Type 0
IsSettled verb.Block = ⊤
IsSettled verb.Redirect = ⊥
IsSettled verb.UpgradeScheme = ⊥
IsSettled verb.Allow = ⊤
IsSettled verb.AllowAllRequests = ⊤

-- what decides is a rule of this name with a regexFilter
abbrev pub IsDecidingPattern : Option Decision → RuleName → Type 0
IsDecidingPattern None name = ⊥
IsDecidingPattern (Some decision) name = IsPattern decision.extension (decision.live ∷ []) name

abbrev pub decided_by : Request → List NamedOp → Decision → Verb → Verdict
decided_by request ops decision verb.Block =
    plain_verdict outcome.Block (Some (name_of decision.extension decision.live)) None
decided_by request ops decision verb.Redirect = sent outcome.Redirect request decision
decided_by request ops decision verb.UpgradeScheme = sent outcome.Upgrade request decision
decided_by request ops decision verb.Allow =
    with_ops outcome.Allow (Some (name_of decision.extension decision.live)) request ops
decided_by request ops decision verb.AllowAllRequests =
    with_ops outcome.Allow (Some (name_of decision.extension decision.live)) request ops

abbrev pub verdict_of : Request → List NamedOp → Option Decision → Verdict
verdict_of request ops None = with_ops outcome.None None request ops
verdict_of request ops (Some decision) = decided_by request ops decision decision.verb
