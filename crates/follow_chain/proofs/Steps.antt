-- One hop more of a trace.
use Rattle.std.proofs.Common.{◌≡◌, ℕ, zero, suc, ◌+◌, ◌<◌, ◌≤◌, List, [], ◌∷◌, ◌++◌, Result, Ok, Err, map, length, refl, sym, ap, ◌∙◌, subst, arith, length-append}
use Rattle.std.specs.Prelude.{sum_by}
use Rattle.std.proofs.lemmas.List.Sums.{sum_by-cons}
use Rattle.dnr_base.specs.declared.request.Request.{Request}
use Rattle.dnr_base.specs.declared.rule_name.RuleName.{RuleName}
use Rattle.dnr_base.specs.Faults.{Rose}
use Rattle.dnr_base.specs.View.{View}
use Rattle.dnr_spec.specs.Suffixes.{SuffixRule}
use Rattle.rule_spec.specs.State.{State}
use Rattle.follow_spec.specs.declared.end.End.{End}
use Rattle.follow_spec.specs.declared.end.End.TheVariants.{Bound}
use Rattle.follow_spec.specs.declared.next.Next.{Next}
use Rattle.follow_spec.specs.declared.next.Next.TheVariants.{Ends as Stops, Follows}
use Rattle.follow_spec.specs.Trace.{Hop, Trace, continued, hop_of, next_behind, requests_behind, requests_from, sent_to, trace_from, with_hop}
use Rattle.follow_spec.proofs.Requests.{hops_from}
use Rattle.follow_chain.specs.declared.refusal.FollowRefusal.{FollowRefusal}
use Rattle.follow_chain.specs.declared.refusal.FollowRefusal.TheVariants.{HostFault, NoMemory}
use Rattle.follow_chain.specs.Refused.{Ends, IsBlamed, IsBlamedAt, Refuses}

-- a hop was added to those that were known, and this follows
pub record Added (suffixes : List SuffixRule) (state : State) (left rest : ℕ) (hops known : List Hop) (request : Request) (next : Next) : Type 0 where
  pub one_left : left ≡ suc rest
  pub added : known ≡ with_hop suffixes state hops request
  pub follows : next ≡ next_behind suffixes state known request

pub trace_step : (suffixes : List SuffixRule) (state : State) (left rest : ℕ) (hops known : List Hop) (request : Request) (next : Next)
    → Added suffixes state left rest hops known request next
    → trace_from suffixes state left hops request ≡ continued (trace_from suffixes state rest) known request next
unfolding trace_from
trace_step suffixes state left rest hops known request next h =
    let go : List Hop → Request → Trace = trace_from suffixes state rest in
    ap (λ n. trace_from suffixes state n hops request) h.one_left
    ∙ ap (λ k. continued go k request (next_behind suffixes state k request)) (sym h.added)
    ∙ ap (continued go known request) (sym h.follows)

requests_step : (suffixes : List SuffixRule) (state : State) (left rest : ℕ) (hops known : List Hop) (request : Request) (next : Next)
    → Added suffixes state left rest hops known request next
    → requests_from suffixes state left hops request ≡ request ∷ requests_behind (requests_from suffixes state rest) known request next
unfolding requests_from
requests_step suffixes state left rest hops known request next h =
    let go : List Hop → Request → List Request = requests_from suffixes state rest in
    ap (λ n. requests_from suffixes state n hops request) h.one_left
    ∙ ap (λ k. request ∷ requests_behind go k request (next_behind suffixes state k request)) (sym h.added)
    ∙ ap (λ n. request ∷ requests_behind go known request n) (sym h.follows)

pub sum_step : (suffixes : List SuffixRule) (state : State) (left rest : ℕ) (hops known : List Hop) (request : Request) (next : Next) (f : Request → ℕ)
    → Added suffixes state left rest hops known request next
    → sum_by f (requests_from suffixes state left hops request)
    ≡ f request + sum_by f (requests_behind (requests_from suffixes state rest) known request next)
sum_step suffixes state left rest hops known request next f h =
    ap (sum_by f) (requests_step suffixes state left rest hops known request next h)
    ∙ sum_by-cons f request (requests_behind (requests_from suffixes state rest) known request next)

-- ---- a hop follows

-- the request that is sent on
pub trace_follows : (suffixes : List SuffixRule) (state : State) (left rest : ℕ) (hops known : List Hop) (request sent : Request) (view : View)
    → Added suffixes state left rest hops known request (Follows view) → sent ≡ sent_to view request
    → trace_from suffixes state rest known sent ≡ trace_from suffixes state left hops request
trace_follows suffixes state left rest hops known request sent view h is =
    ap (trace_from suffixes state rest known) is ∙ sym (trace_step suffixes state left rest hops known request (Follows view) h)

pub sum_follows : (suffixes : List SuffixRule) (state : State) (left rest : ℕ) (hops known : List Hop) (request sent : Request) (view : View) (f : Request → ℕ)
    → Added suffixes state left rest hops known request (Follows view) → sent ≡ sent_to view request
    → sum_by f (requests_from suffixes state left hops request) ≡ f request + sum_by f (requests_from suffixes state rest known sent)
sum_follows suffixes state left rest hops known request sent view f h is =
    sum_step suffixes state left rest hops known request (Follows view) f h
    ∙ ap (λ r. f request + sum_by f (requests_from suffixes state rest known r)) (sym is)

pub steps_on : (steps new total own all behind : ℕ) → new ≤ steps + own → steps + all ≤ total → all ≡ own + behind → new + behind ≤ total
steps_on steps new total own all behind bound few is = omega arith

pub added_length : (suffixes : List SuffixRule) (state : State) (hops known : List Hop) (request : Request)
    → known ≡ with_hop suffixes state hops request → length known ≡ length hops + 1
added_length suffixes state hops known request is = ap length is ∙ length-append hops (hop_of suffixes state request ∷ [])

-- ---- the trace ends

abbrev made : List Hop → End → Trace
made hops end = record { hops = hops; end = end }

pub trace_ended : (suffixes : List SuffixRule) (state : State) (left rest : ℕ) (hops known built : List Hop) (request : Request) (end : End) (whole : Trace)
    → Added suffixes state left rest hops known request (Stops end) → built ≡ known → trace_from suffixes state left hops request ≡ whole
    → made built end ≡ whole
trace_ended suffixes state left rest hops known built request end whole h is same =
    ap (λ list. made list end) is ∙ sym (trace_step suffixes state left rest hops known request (Stops end) h) ∙ same

-- where no hop is left, those that are known are all
pub trace_bound : (suffixes : List SuffixRule) (state : State) (left : ℕ) (hops built : List Hop) (request : Request) (whole : Trace)
    → left ≡ zero → built ≡ hops → trace_from suffixes state left hops request ≡ whole → made built Bound ≡ whole
unfolding trace_from
trace_bound suffixes state left hops built request whole none is same =
    ap (λ list. made list Bound) is ∙ sym (ap (λ n. trace_from suffixes state n hops request) none) ∙ same

-- ---- where no verdict is given

-- what is known where a hop is still to come
starts : (suffixes : List SuffixRule) (state : State) (left rest : ℕ) (hops : List Hop) (request : Request) → left ≡ suc rest
    → Added suffixes state left rest hops (with_hop suffixes state hops request) request (next_behind suffixes state (with_hop suffixes state hops request) request)
starts suffixes state left rest hops request left_is = record { one_left = left_is; added = refl; follows = refl }

-- the request's own pairs are among those of the requests
pub own_pairs : (suffixes : List SuffixRule) (state : State) (left rest : ℕ) (hops : List Hop) (request : Request) (f : Request → ℕ) → left ≡ suc rest
    → f request ≤ sum_by f (requests_from suffixes state left hops request)
own_pairs suffixes state left rest hops request f left_is =
    let known = with_hop suffixes state hops request in
    omega (arith, sum_step suffixes state left rest hops known request (next_behind suffixes state known request) f (starts suffixes state left rest hops request left_is))

-- the hop that is to come is one of the trace
pub hop_comes : (suffixes : List SuffixRule) (state : State) (left rest : ℕ) (hops : List Hop) (request : Request) → left ≡ suc rest
    → length hops < length (trace_from suffixes state left hops request).hops
hop_comes suffixes state left rest hops request left_is =
    let known = with_hop suffixes state hops request in
    let behind = requests_behind (requests_from suffixes state rest) known request (next_behind suffixes state known request) in
    let all = ap length (hops_from suffixes state left hops request
    ∙ ap (λ requests. hops ++ map (hop_of suffixes state) requests) (requests_step suffixes state left rest hops known request (next_behind suffixes state known request) (starts suffixes state left rest hops request left_is))) in
    omega (arith, all, length-append hops (hop_of suffixes state request ∷ map (hop_of suffixes state) behind))

-- a fault at the hop that is to come is one at a hop of the trace
pub blamed : (suffixes : List SuffixRule) (state : State) (left rest : ℕ) (hops : List Hop) (request : Request) (place hops_count : ℕ)
    → left ≡ suc rest → place ≡ length hops → length (trace_from suffixes state left hops request).hops ≡ hops_count
    → (hop : ℕ) (rule : RuleName) → IsBlamedAt state place hop rule → IsBlamed state hops_count hop rule
blamed suffixes state left rest hops request place hops_count left_is place_is count hop rule h = record {
  within = omega (arith, hop_comes suffixes state left rest hops request left_is, h.here);
  pattern = h.pattern;
}

-- a refusal is handed on
pub refuses_on : (P Q : ℕ → RuleName → Type 0) (before start now : ℕ) (refusal : FollowRefusal) → before ≡ start
    → ((hop : ℕ) (rule : RuleName) → P hop rule → Q hop rule) → Refuses P before now refusal → Refuses Q start now refusal
refuses_on P Q before start now (HostFault hop rule) same f h = (subst (λ (n : ℕ). Rose n now) same h.0, f hop rule h.1)
refuses_on P Q before start now NoMemory same f h = h ∙ same

-- the answer of a part of the trace is the answer of the whole
pub ends_in : {T : Type 0} (P Q : ℕ → RuleName → Type 0) (before start now : ℕ) (result : Result T FollowRefusal) → before ≡ start
    → ((hop : ℕ) (rule : RuleName) → P hop rule → Q hop rule) → Ends P before now result → Ends Q start now result
ends_in P Q before start now (Ok x) same f h = h ∙ same
ends_in P Q before start now (Err refusal) same f h = refuses_on P Q before start now refusal same f h

pub blamed_as : (state : State) (count whole : ℕ) → count ≡ whole → (hop : ℕ) (rule : RuleName) → IsBlamed state count hop rule → IsBlamed state whole hop rule
blamed_as state count whole is hop rule h = record { within = omega (arith, h.within); pattern = h.pattern }
