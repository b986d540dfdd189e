-- Where a request leads: what becomes of it, of what it is redirected or upgraded to, and so on. Fetch Standard,
-- "HTTP-redirect fetch": 20 redirects are followed at most; here the first request counts among the 20 hops.
use Rattle.std.specs.Prelude.{◌≡◌, ℕ, zero, suc, List, [], ◌∷◌, ◌++◌, length, map, Bool, true, false, ◌==◌, Option, Some, None, option_and_then, Result, Ok, Err, if◌then◌else◌}
use Rattle.std.specs.List.{list_any}
use Rattle.std.specs.Str.{bytes_eq}
use Rattle.dnr_base.specs.declared.request.Request.{Request}
use Rattle.dnr_base.specs.View.{View}
use Rattle.dnr_spec.specs.declared.view_refusal.ViewRefusal.{ViewRefusal}
use Rattle.dnr_spec.specs.Suffixes.{SuffixRule}
use Rattle.dnr_spec.specs.UrlView.{view_of}
use Rattle.rule_spec.specs.declared.outcome.Outcome.{Outcome}
use Rattle.rule_spec.specs.declared.outcome.Outcome.TheVariants as outcome
use Rattle.rule_spec.specs.Scan.{Verdict, scan}
use Rattle.rule_spec.specs.State.{State}
use Rattle.follow_spec.specs.declared.end.End.{End}
use Rattle.follow_spec.specs.declared.end.End.TheVariants.{Settled, Unreadable, Repeated, Bound}
use Rattle.follow_spec.specs.declared.next.Next.{Next}
use Rattle.follow_spec.specs.declared.next.Next.TheVariants.{Ends, Follows}

-- what becomes of the request where it is sent to this URL, which stands here as it is serialized, with its fragment
pub record Hop : Type 0 where
  pub url : List ℕ
  pub verdict : Verdict

pub record Trace : Type 0 where
  pub hops : List Hop
  pub end : End

-- the most hops
abbrev pub max_hops : ℕ
max_hops = 20

-- ---- what follows a hop

-- the request is sent on
abbrev pub leads_on : Outcome → Bool
leads_on outcome.Redirect = true
leads_on outcome.Upgrade = true
leads_on outcome.None = false
leads_on outcome.Block = false
leads_on outcome.Allow = false

abbrev pub view_if : Result View ViewRefusal → Option View
view_if (Ok view) = Some view
view_if (Err refusal) = None

-- the URL that it is sent to, where that can be read
abbrev pub next_view : Verdict → Option View
next_view verdict = option_and_then (λ target. view_if (view_of target)) verdict.target

-- one of the hops was sent to this URL
abbrev pub was_sent : List Hop → View → Bool
was_sent hops view = list_any (λ hop. bytes_eq hop.url view.full) hops

-- what follows these hops, of which the last is sent to this URL, if it is one
abbrev pub next_to : List Hop → Option View → Next
next_to hops None = Ends Unreadable
next_to hops (Some view) =
    if was_sent hops view then Ends Repeated
    else (if length hops == max_hops then Ends Bound else Follows view)

-- what follows these hops, of which the last has this verdict
abbrev pub next_after : List Hop → Verdict → Next
next_after hops verdict = if leads_on verdict.outcome then next_to hops (next_view verdict) else Ends Settled

-- ---- the whole

-- the same request for another URL
abbrev pub sent_to : View → Request → Request
sent_to view request = record request { view = view }

-- the request's own hop
abbrev pub hop_of : List SuffixRule → State → Request → Hop
hop_of suffixes state request = record { url = request.view.full; verdict = scan suffixes state request }

-- the hops before this request, and its own
abbrev pub with_hop : List SuffixRule → State → List Hop → Request → List Hop
with_hop suffixes state hops request = hops ++ hop_of suffixes state request ∷ []

-- what follows these hops, of which the last is this request's own
abbrev pub next_behind : List SuffixRule → State → List Hop → Request → Next
next_behind suffixes state hops request = next_after hops (scan suffixes state request)

abbrev pub continued : (List Hop → Request → Trace) → List Hop → Request → Next → Trace
continued go hops request (Ends end) = record { hops = hops; end = end }
continued go hops request (Follows view) = go hops (sent_to view request)

-- the trace of which these hops are known and this request is the next, where at most so many are followed
unfoldable pub trace_from : List SuffixRule → State → ℕ → List Hop → Request → Trace
trace_from suffixes state zero hops request = record { hops = hops; end = Bound }
trace_from suffixes state (suc left) hops request =
    let known = with_hop suffixes state hops request in
    continued (trace_from suffixes state left) known request (next_behind suffixes state known request)

abbrev pub trace : List SuffixRule → State → Request → Trace
trace suffixes state request = trace_from suffixes state max_hops [] request

-- ---- the requests of its hops

abbrev pub requests_behind : (List Hop → Request → List Request) → List Hop → Request → Next → List Request
requests_behind go hops request (Ends end) = []
requests_behind go hops request (Follows view) = go hops (sent_to view request)

-- this request, and those that it is sent on as, where these hops are known and at most so many are followed
unfoldable pub requests_from : List SuffixRule → State → ℕ → List Hop → Request → List Request
requests_from suffixes state zero hops request = []
requests_from suffixes state (suc left) hops request =
    let known = with_hop suffixes state hops request in
    request ∷ requests_behind (requests_from suffixes state left) known request (next_behind suffixes state known request)

abbrev pub requests_of : List SuffixRule → State → Request → List Request
requests_of suffixes state request = requests_from suffixes state max_hops [] request

-- A trace has the hops of its requests, in their order.
abbrev pub HopsAreOfRequests : Type 0
HopsAreOfRequests =
    (suffixes : List SuffixRule) (state : State) (request : Request)
    → (trace suffixes state request).hops ≡ map (hop_of suffixes state) (requests_of suffixes state request)
