-- The documented precedence scan: what becomes of a request, over all rules in force. Chrome's reference, "Rule
-- prioritization", inside an extension and across extensions, and "Header modification".
use Rattle.std.specs.Prelude.{ℕ, ◌+◌, List, [], ◌∷◌, ◌++◌, map, filter, Bool, true, false, not, ◌&&◌, nat_le, Option, Some, None, option_map, option_and_then, is_some, unwrap_or, slice_get, max, if◌then◌else◌}
use Rattle.std.specs.List.{filter_map, flat_map, find, list_any}
use Rattle.dnr_base.specs.declared.candidate.Candidate.{Candidate}
use Rattle.dnr_base.specs.declared.direction.Direction.{Direction}
use Rattle.dnr_base.specs.declared.direction.Direction.TheVariants as direction
use Rattle.dnr_base.specs.declared.header.Header.{Header}
use Rattle.dnr_base.specs.declared.offered.Offered.{Offered}
use Rattle.dnr_base.specs.declared.redirect.Redirect.{Redirect}
use Rattle.dnr_base.specs.declared.request.Request.{Request}
use Rattle.dnr_base.specs.declared.rule_name.RuleName.{RuleName}
use Rattle.dnr_base.specs.declared.span.Span.{Span}
use Rattle.dnr_base.specs.declared.verb.Verb.{Verb}
use Rattle.dnr_base.specs.declared.verb.Verb.TheVariants as verb
use Rattle.dnr_base.specs.declared.winner.Winner.{Winner}
use Rattle.dnr_base.specs.View.{View, text_of}
use Rattle.dnr_spec.specs.Suffixes.{SuffixRule}
use Rattle.dnr_spec.specs.Patterns.{found}
use Rattle.dnr_spec.specs.Order.{beats, prevails}
use Rattle.dnr_spec.specs.Target.{target_of, is_upgraded, upgraded_of}
use Rattle.dnr_spec.specs.Headers.{HeaderOp, effective, headers_after}
use Rattle.rule_spec.specs.declared.outcome.Outcome.{Outcome}
use Rattle.rule_spec.specs.declared.outcome.Outcome.TheVariants as outcome
use Rattle.rule_spec.specs.Rule.{Action, block, redirect, allow, upgrade_scheme, modify_headers, allow_all_requests, verb_of, Condition, Rule}
use Rattle.rule_spec.specs.Access.{has_access}
use Rattle.rule_spec.specs.Reaches.{reach_of}
use Rattle.rule_spec.specs.State.{Extension, State, Live, live_rules}

-- ---- which rules may decide

-- the first match of the regexFilter, if there is one
abbrev pub first_match : Condition → View → Option (List (Option Span))
first_match condition view =
    option_and_then (λ pattern. found pattern (not condition.case_sensitive) (text_of view)) condition.regex_filter

-- the places of its groups; a rule without a match is no candidate, so what stands for its places decides nothing
abbrev pub places_in : Condition → View → List (Option Span)
places_in condition view = unwrap_or (first_match condition view) []

-- where the rule's redirect leads
abbrev pub target_by : List ℕ → Rule → Redirect → View → Option (List ℕ)
target_by extension rule target view = target_of target extension view (places_in rule.condition view)

-- a redirect needs access and a target, an upgrade a scheme that is upgraded, and a change of headers access
abbrev pub may_act : List ℕ → Bool → Rule → Action → View → Bool
may_act extension access rule block view = true
may_act extension access rule (redirect target) view = access && is_some (target_by extension rule target view)
may_act extension access rule allow view = true
may_act extension access rule upgrade_scheme view = is_upgraded view.scheme
may_act extension access rule (modify_headers request response) view = access
may_act extension access rule allow_all_requests view = true

-- a rule that reaches the request and may act on it, where its extension has access to the request or not
abbrev pub is_candidate : List SuffixRule → List ℕ → Bool → Request → Rule → Bool
is_candidate suffixes extension access request rule =
    is_some (reach_of suffixes rule request) && may_act extension access rule rule.action request.view

abbrev pub candidates : List SuffixRule → Extension → Request → List Live
candidates suffixes extension request =
    filter (λ live. is_candidate suffixes extension.name (has_access extension.access request) request live.rule)
    (live_rules extension)

-- ---- which rule decides

-- what the order of rules looks at
abbrev pub candidate_of : Live → Verb → Candidate
candidate_of live verb = record { priority = live.rule.priority; action = verb; rank = live.rank; id = live.rule.id }

-- the candidate's rule with its verdict, if it gives one
abbrev pub deciding_of : Live → Option (Live × Candidate)
deciding_of live = option_map (λ verb. (live, candidate_of live verb)) (verb_of live.rule.action)

-- the one of a list that no other of it beats
abbrev pub unbeaten_of : {X : Type 0} → (X → X → Bool) → List X → Option X
unbeaten_of beats list = find (λ one. not (list_any (λ other. beats other one) list)) list

-- what an extension says: the rule that no other candidate of it beats
abbrev pub winner_of : List SuffixRule → Request → Extension → Option (Live × Candidate)
winner_of suffixes request extension =
    unbeaten_of (λ a b. beats a.1 b.1) (filter_map deciding_of (candidates suffixes extension request))

-- What an extension says, by its rule and verb; `age` is its place in the order of installation.
pub record Decision : Type 0 where
  pub extension : List ℕ
  pub age : ℕ
  pub live : Live
  pub verb : Verb

abbrev pub decision_of : List ℕ → ℕ → Live × Candidate → Decision
decision_of name age one = record { extension = name; age = age; live = one.0; verb = one.1.action }

abbrev pub list_of : {X : Type 0} → Option X → List X
list_of None = []
list_of (Some x) = x ∷ []

-- what the extensions say, of which the first has this age
abbrev pub decisions_from : List SuffixRule → Request → ℕ → List Extension → List Decision
decisions_from suffixes request age [] = []
decisions_from suffixes request age (extension ∷ extensions) =
    list_of (option_map (decision_of extension.name age) (winner_of suffixes request extension))
    ++ decisions_from suffixes request (age + 1) extensions

abbrev pub winner_seen : Decision → Winner
winner_seen decision = record { action = decision.verb; age = decision.age }

-- what prevails across extensions
abbrev pub deciding : List SuffixRule → State → Request → Option Decision
deciding suffixes state request =
    unbeaten_of (λ a b. prevails (winner_seen a) (winner_seen b)) (decisions_from suffixes request 0 state.extensions)

-- ---- header operations

-- an operation that a rule offers, of the extension of this age
pub record Offer : Type 0 where
  pub age : ℕ
  pub direction : Direction
  pub op : HeaderOp
  pub rule : RuleName

abbrev pub name_of : List ℕ → Live → RuleName
name_of extension live = record { ext = extension; set = live.set; id = live.rule.id }

abbrev pub offers_by : ℕ → RuleName → Direction → List HeaderOp → List Offer
offers_by age rule direction ops = map (λ op. record { age = age; direction = direction; op = op; rule = rule }) ops

-- the operations of a rule in the order of its lists, none where it changes no headers
abbrev pub offers_in : ℕ → RuleName → Action → List Offer
offers_in age rule block = []
offers_in age rule (redirect target) = []
offers_in age rule allow = []
offers_in age rule upgrade_scheme = []
offers_in age rule (modify_headers request response) =
    offers_by age rule direction.Request request ++ offers_by age rule direction.Response response
offers_in age rule allow_all_requests = []

-- the greatest priority of the candidates that allow, 0 where there is none
abbrev pub allowed_priority : Action → ℕ → ℕ
allowed_priority allow priority = priority
allowed_priority allow_all_requests priority = priority
allowed_priority _ priority = 0

abbrev pub greatest_allowed : List Live → ℕ
greatest_allowed [] = 0
greatest_allowed (live ∷ lives) = max (allowed_priority live.rule.action live.rule.priority) (greatest_allowed lives)

-- a rule that changes headers, and no weaker than this
abbrev pub changes_headers : ℕ → Live → Bool
changes_headers least live = not (is_some (verb_of live.rule.action)) && nat_le least live.rule.priority

-- Of rules that change headers this one is offered first. They have no verb, so they are compared as if all had one,
-- whichever: it drops out.
abbrev pub comes_before : Live → Live → Bool
comes_before a b = beats (candidate_of a verb.Block) (candidate_of b verb.Block)

abbrev pub into_order : Live → List Live → List Live
into_order live [] = live ∷ []
into_order live (first ∷ rest) = if comes_before live first then live ∷ first ∷ rest else first ∷ into_order live rest

abbrev pub in_order : List Live → List Live
in_order [] = []
in_order (live ∷ lives) = into_order live (in_order lives)

-- the candidates of an extension that change headers, the strongest first, without those that an `allow` outdoes
abbrev pub changing : List Live → List Live
changing candidates = in_order (filter (changes_headers (greatest_allowed candidates)) candidates)

abbrev pub offers_of : List SuffixRule → Request → ℕ → Extension → List Offer
offers_of suffixes request age extension =
    flat_map (λ live. offers_in age (name_of extension.name live) live.rule.action) (changing (candidates suffixes extension request))

-- what all extensions offer, the newest first; the first of the list has this age
abbrev pub offers_from : List SuffixRule → Request → ℕ → List Extension → List Offer
offers_from suffixes request age [] = []
offers_from suffixes request age (extension ∷ extensions) =
    offers_from suffixes request (age + 1) extensions ++ offers_of suffixes request age extension

abbrev pub offered : Offer → Offered
offered offer = record { age = offer.age; direction = offer.direction; name = offer.op.name; operation = offer.op.operation }

-- those that take effect
abbrev pub taking_effect : List Offer → List Offer
taking_effect offers = filter_map (λ place. slice_get offers place) (effective (map offered offers))

-- an operation that took effect, with its rule
pub record NamedOp : Type 0 where
  pub direction : Direction
  pub op : HeaderOp
  pub rule : RuleName

abbrev pub named_op : Offer → NamedOp
named_op offer = record { direction = offer.direction; op = offer.op; rule = offer.rule }

abbrev pub is_on_request : Direction → Bool
is_on_request direction.Request = true
is_on_request direction.Response = false

abbrev pub is_on : Direction → NamedOp → Bool
is_on direction.Request op = is_on_request op.direction
is_on direction.Response op = not (is_on_request op.direction)

-- those on request headers before those on response headers
abbrev pub named_ops : List SuffixRule → State → Request → List NamedOp
named_ops suffixes state request =
    let ops = map named_op (taking_effect (offers_from suffixes request 0 state.extensions)) in
    filter (is_on direction.Request) ops ++ filter (is_on direction.Response) ops

-- ---- the verdict

pub record Verdict : Type 0 where
  pub outcome : Outcome
  pub rule : Option RuleName
  pub target : Option (List ℕ)
  pub ops : List NamedOp
  pub request_headers : Option (List Header)
  pub response_headers : Option (List Header)

-- a verdict that changes no headers
abbrev pub plain_verdict : Outcome → Option RuleName → Option (List ℕ) → Verdict
plain_verdict outcome rule target = record {
  outcome = outcome;
  rule = rule;
  target = target;
  ops = [];
  request_headers = None;
  response_headers = None;
}

abbrev pub list_after : Direction → List NamedOp → Option (List Header) → Option (List Header)
list_after direction ops headers =
    option_map (λ list. headers_after list (map (λ op. op.op) (filter (is_on direction) ops))) headers

-- a verdict of a request that goes on, with the header lists after the operations, if there are any operations
abbrev pub with_ops : Outcome → Option RuleName → Request → List NamedOp → Verdict
with_ops outcome rule request [] = plain_verdict outcome rule None
with_ops outcome rule request (op ∷ ops) = record {
  outcome = outcome;
  rule = rule;
  target = None;
  ops = op ∷ ops;
  request_headers = list_after direction.Request (op ∷ ops) request.request_headers;
  response_headers = list_after direction.Response (op ∷ ops) request.response_headers;
}

-- where a deciding rule's redirect leads
abbrev pub decided_target : Decision → Action → Request → Option (List ℕ)
decided_target decision (redirect target) request = target_by decision.extension decision.live.rule target request.view
decided_target decision upgrade_scheme request = upgraded_of request.view
decided_target decision _ request = None

abbrev pub decided : List SuffixRule → State → Request → Decision → Verb → Verdict
decided suffixes state request decision verb.Block =
    plain_verdict outcome.Block (Some (name_of decision.extension decision.live)) None
decided suffixes state request decision verb.Redirect =
    plain_verdict outcome.Redirect (Some (name_of decision.extension decision.live)) (decided_target decision decision.live.rule.action request)
decided suffixes state request decision verb.UpgradeScheme =
    plain_verdict outcome.Upgrade (Some (name_of decision.extension decision.live)) (decided_target decision decision.live.rule.action request)
decided suffixes state request decision verb.Allow =
    with_ops outcome.Allow (Some (name_of decision.extension decision.live)) request (named_ops suffixes state request)
decided suffixes state request decision verb.AllowAllRequests =
    with_ops outcome.Allow (Some (name_of decision.extension decision.live)) request (named_ops suffixes state request)

abbrev pub verdict_by : List SuffixRule → State → Request → Option Decision → Verdict
verdict_by suffixes state request None = with_ops outcome.None None request (named_ops suffixes state request)
verdict_by suffixes state request (Some decision) = decided suffixes state request decision decision.verb

unfoldable pub scan : List SuffixRule → State → Request → Verdict
scan suffixes state request = verdict_by suffixes state request (deciding suffixes state request)
