use Rattle.std.proofs.Common.{◌≡◌, List, [], length, IfOk, refl, sym, ap, subst, ◌∙◌, arith}
use Rattle.std.proofs.lemmas.Result.{err_from_is_err_and}
use Rattle.index_spec.specs.Pairs.{pairs_of}
use Rattle.dnr_base.specs.declared.request.Request.{Request}
use Rattle.dnr_spec.specs.Suffixes.{SuffixRule}
use Rattle.rule_spec.specs.State.{State}
use Rattle.follow_spec.specs.declared.next.Next.{Next}
use Rattle.follow_spec.specs.declared.next.Next.TheVariants.{Ends, Follows}
use Rattle.follow_spec.specs.Trace.{Hop, Trace, next_behind, trace, trace_from, with_hop}
use Rattle.follow_chain.specs.Refused.{IsBlamed, IsBlamedAt}
use Rattle.follow_chain.proofs.Steps.{Added, blamed, blamed_as, ends_in, own_pairs, refuses_on, sum_follows, trace_ended, trace_follows}
use Rattle.follow_chain.proofs.chain.follow.Goals as goal

-- the request's own hop was added to none
first : (suffixes : List SuffixRule) (state : State) (hops more : List Hop) (request : Request) (next answer : Next)
    → hops ≡ [] → more ≡ with_hop suffixes state hops request → answer ≡ next → answer ≡ next_behind suffixes state more request
    → Added suffixes state 20 19 [] more request next
first suffixes state hops more request next answer none added is behind = record {
  one_left = refl;
  added = added ∙ ap (λ known. with_hop suffixes state known request) none;
  follows = sym is ∙ behind;
}

pub returns-in_err-end-clause-bound : goal.returns-in_err-end-clause-bound
returns-in_err-end-clause-bound g c =
    let known = c.args.generation.now in
    let own = own_pairs known.suffixes known.state 20 19 [] c.args.request.now (pairs_of known.state) refl in
    omega (arith, own, c.in_err-end.ensures.bound)

pub returns-in_err-end-clause-ends : goal.returns-in_err-end-clause-ends
returns-in_err-end-clause-ends g c =
    let known = c.args.generation.now in
    let count = length (trace known.suffixes known.state c.args.request.now).hops in
    let before = g.H.RegexHost.faults c.args.host.now in
    let p = err_from_is_err_and c.from_residual.result c.from_residual.ensures.1 in
    rw (p.1, p.2)
    (refuses_on (IsBlamedAt known.state 0) (IsBlamed known.state count) before before (g.H.RegexHost.faults c.add_hop.new.host) c.in_err-end.field-0.0 refl
    (blamed known.suffixes known.state 20 19 [] c.args.request.now 0 count refl refl refl) c.in_err-end.ensures.ends)

pub returns-in_err-sent-in-Follows-clause-bound : goal.returns-in_err-sent-in-Follows-clause-bound
returns-in_err-sent-in-Follows-clause-bound g c =
    let known = c.args.generation.now in
    let own = own_pairs known.suffixes known.state 20 19 [] c.args.request.now (pairs_of known.state) refl in
    omega (arith, own, c.in_ok-end.ensures.bound)

pub returns-in-Ends-clause-trace : goal.returns-in-Ends-clause-trace
returns-in-Ends-clause-trace g c =
    let known = c.args.generation.now in
    let request = c.args.request.now in
    trace_ended known.suffixes known.state 20 19 [] c.add_hop.new.hops.items c.build.result request c.in-Ends.end (trace known.suffixes known.state request)
    (first known.suffixes known.state c.new-hops.result.items c.add_hop.new.hops.items request (Ends c.in-Ends.end) _ c.new-hops.ensures.items c.in_ok-end.ensures.hops
    c.in-Ends.is c.in_ok-end.ensures.next) c.build.ensures refl

pub returns-in-Ends-clause-bound : goal.returns-in-Ends-clause-bound
returns-in-Ends-clause-bound g c =
    let known = c.args.generation.now in
    let own = own_pairs known.suffixes known.state 20 19 [] c.args.request.now (pairs_of known.state) refl in
    omega (arith, own, c.in_ok-end.ensures.bound)

pub returns-in_ok-sent-in-Follows-clause-trace : goal.returns-in_ok-sent-in-Follows-clause-trace
returns-in_ok-sent-in-Follows-clause-trace g c =
    let known = c.args.generation.now in
    let request = c.args.request.now in
    let more = c.add_hop.new.hops.items in
    let added = first known.suffixes known.state c.new-hops.result.items more request (Follows c.in-Follows.view) _ c.new-hops.ensures.items c.in_ok-end.ensures.hops
    c.in-Follows.is c.in_ok-end.ensures.next in
    subst (λ (whole : Trace). IfOk c.follow_on.result (λ told. told ≡ whole))
    (trace_follows known.suffixes known.state 20 19 [] more request c.in_ok-sent-in-Follows.sent c.in-Follows.view added c.in_ok-sent-in-Follows.ensures) c.follow_on.ensures.trace

pub returns-in_ok-sent-in-Follows-clause-bound : goal.returns-in_ok-sent-in-Follows-clause-bound
returns-in_ok-sent-in-Follows-clause-bound g c =
    let known = c.args.generation.now in
    let request = c.args.request.now in
    let more = c.add_hop.new.hops.items in
    let added = first known.suffixes known.state c.new-hops.result.items more request (Follows c.in-Follows.view) _ c.new-hops.ensures.items c.in_ok-end.ensures.hops
    c.in-Follows.is c.in_ok-end.ensures.next in
    let sum = sum_follows known.suffixes known.state 20 19 [] more request c.in_ok-sent-in-Follows.sent c.in-Follows.view (pairs_of known.state) added c.in_ok-sent-in-Follows.ensures in
    omega (arith, sum, c.in_ok-end.ensures.bound, c.follow_on.ensures.bound)

pub returns-in_ok-sent-in-Follows-clause-ends : goal.returns-in_ok-sent-in-Follows-clause-ends
returns-in_ok-sent-in-Follows-clause-ends g c =
    let known = c.args.generation.now in
    let request = c.args.request.now in
    let more = c.add_hop.new.hops.items in
    let added = first known.suffixes known.state c.new-hops.result.items more request (Follows c.in-Follows.view) _ c.new-hops.ensures.items c.in_ok-end.ensures.hops
    c.in-Follows.is c.in_ok-end.ensures.next in
    let count = length (trace_from known.suffixes known.state 19 more c.in_ok-sent-in-Follows.sent).hops in
    let whole = length (trace known.suffixes known.state request).hops in
    ends_in (IsBlamed known.state count) (IsBlamed known.state whole) (g.H.RegexHost.faults c.add_hop.new.host) (g.H.RegexHost.faults c.args.host.now)
    (g.H.RegexHost.faults c.follow_on.new.host) c.follow_on.result c.in_ok-end.ensures.ends
    (blamed_as known.state count whole
    (ap (λ (t : Trace). length t.hops) (trace_follows known.suffixes known.state 20 19 [] more request c.in_ok-sent-in-Follows.sent c.in-Follows.view added c.in_ok-sent-in-Follows.ensures)))
    c.follow_on.ensures.ends
