-- A trace has the hops of its requests.
use Rattle.std.specs.Prelude.{◌≡◌, ℕ, zero, suc, List, [], ◌∷◌, ◌++◌, map}
use Rattle.std.proofs.Common.{◌∙◌, sym, append_assoc, append-nil}
use Rattle.dnr_base.specs.declared.request.Request.{Request}
use Rattle.dnr_spec.specs.Suffixes.{SuffixRule}
use Rattle.rule_spec.specs.State.{State}
use Rattle.follow_spec.specs.declared.next.Next.{Next}
use Rattle.follow_spec.specs.declared.next.Next.TheVariants.{Ends, Follows}
use Rattle.follow_spec.specs.Trace.{Hop, HopsAreOfRequests, continued, hop_of, next_behind, requests_behind, requests_from, sent_to, trace_from, with_hop}

-- what is known of what follows a hop holds of the hop, too
hops_step : (suffixes : List SuffixRule) (state : State) (left : ℕ) (hops : List Hop) (request : Request) (next : Next)
    → ((known : List Hop) (later : Request) → (trace_from suffixes state left known later).hops ≡ known ++ map (hop_of suffixes state) (requests_from suffixes state left known later))
    → (continued (trace_from suffixes state left) hops request next).hops
    ≡ hops ++ map (hop_of suffixes state) (requests_behind (requests_from suffixes state left) hops request next)
hops_step suffixes state left hops request (Ends end) more = sym (append-nil hops)
hops_step suffixes state left hops request (Follows view) more = more hops (sent_to view request)

pub hops_from : (suffixes : List SuffixRule) (state : State) (left : ℕ) (hops : List Hop) (request : Request)
    → (trace_from suffixes state left hops request).hops ≡ hops ++ map (hop_of suffixes state) (requests_from suffixes state left hops request)
unfolding trace_from requests_from
hops_from suffixes state zero hops request = sym (append-nil hops)
hops_from suffixes state (suc left) hops request =
    let known = with_hop suffixes state hops request in
    hops_step suffixes state left known request (next_behind suffixes state known request) (hops_from suffixes state left)
    ∙ append_assoc hops (hop_of suffixes state request ∷ []) (map (hop_of suffixes state) (requests_behind (requests_from suffixes state left) known request (next_behind suffixes state known request)))

pub hops_are_of_requests : HopsAreOfRequests
hops_are_of_requests suffixes state request = hops_from suffixes state 20 [] request
