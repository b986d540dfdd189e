use Rattle.std.proofs.Common.{◌+◌, ◌-◌, length, refl, sym, ap, ◌∙◌, arith}
use Rattle.std.proofs.lemmas.Result.{err_from_is_err_and}
use Rattle.index_spec.specs.Pairs.{pairs_of}
use Rattle.follow_spec.specs.declared.next.Next.TheVariants.{Follows}
use Rattle.follow_spec.specs.Trace.{Trace, requests_from, sent_to, trace_from}
use Rattle.std.specs.Prelude.{sum_by}
use Rattle.follow_chain.specs.Refused.{IsBlamed, IsBlamedAt}
use Rattle.follow_chain.proofs.Steps.{Added, added_length, blamed, own_pairs, refuses_on, steps_on, sum_follows, trace_bound, trace_ended, trace_follows}
use Rattle.follow_chain.proofs.chain.follow_on.Goals as goal

pub returns-in_err-end-clause-bound : goal.returns-in_err-end-clause-bound
returns-in_err-end-clause-bound g c =
    let known = c.args.generation.now in
    let place = c.loop-place.place in
    let own = own_pairs known.suffixes known.state (20 - place) (20 - (place + 1)) c.loop-place.hops.items c.loop-place.request (pairs_of known.state) (omega arith) in
    omega (arith, own, c.in_err-end.ensures.bound, c.loop-place.invariant.few)

pub returns-in_err-end-clause-ends : goal.returns-in_err-end-clause-ends
returns-in_err-end-clause-ends g c =
    let known = c.args.generation.now in
    let place = c.loop-place.place in
    let count = length (trace_from known.suffixes known.state 19 c.args.hops.items c.args.request).hops in
    let p = err_from_is_err_and c.from_residual.result c.from_residual.ensures.1 in
    rw (p.1, p.2)
    (refuses_on (IsBlamedAt known.state place) (IsBlamed known.state count) (g.H.RegexHost.faults c.loop-place.host) (g.H.RegexHost.faults c.args.host.now)
    (g.H.RegexHost.faults c.add_hop.new.host) c.in_err-end.field-0.0 c.loop-place.invariant.calm
    (blamed known.suffixes known.state (20 - place) (20 - (place + 1)) c.loop-place.hops.items c.loop-place.request place count (omega arith) (sym c.loop-place.invariant.count)
    (ap (λ (t : Trace). length t.hops) c.loop-place.invariant.same))
    c.in_err-end.ensures.ends)

pub returns-in-Ends-clause-trace : goal.returns-in-Ends-clause-trace
returns-in-Ends-clause-trace g c =
    let known = c.args.generation.now in
    let place = c.loop-place.place in
    trace_ended known.suffixes known.state (20 - place) (20 - (place + 1)) c.loop-place.hops.items c.add_hop.new.hops.items c.build.result c.loop-place.request c.in-Ends.end
    (trace_from known.suffixes known.state 19 c.args.hops.items c.args.request)
    (record { one_left = omega arith; added = c.in_ok-end.ensures.hops; follows = sym c.in-Ends.is ∙ c.in_ok-end.ensures.next }) c.build.ensures c.loop-place.invariant.same

pub returns-in-Ends-clause-bound : goal.returns-in-Ends-clause-bound
returns-in-Ends-clause-bound g c =
    let known = c.args.generation.now in
    let place = c.loop-place.place in
    let own = own_pairs known.suffixes known.state (20 - place) (20 - (place + 1)) c.loop-place.hops.items c.loop-place.request (pairs_of known.state) (omega arith) in
    omega (arith, own, c.in_ok-end.ensures.bound, c.loop-place.invariant.few)

pub loop-place-preserved : goal.loop-place-preserved
loop-place-preserved g c =
    let known = c.args.generation.now in
    let place = c.loop-place.place in
    let hops = c.loop-place.hops.items in
    let more = c.add_hop.new.hops.items in
    let request = c.loop-place.request in
    let sent = sent_to c.in-Follows.view request in
    let added : Added known.suffixes known.state (20 - place) (20 - (place + 1)) hops more request (Follows c.in-Follows.view)
    = record { one_left = omega arith; added = c.in_ok-end.ensures.hops; follows = sym c.in-Follows.is ∙ c.in_ok-end.ensures.next } in
    record {
      count = added_length known.suffixes known.state hops more request c.in_ok-end.ensures.hops ∙ ap (λ n. n + 1) c.loop-place.invariant.count;
      frames = c.loop-place.invariant.frames;
      same = trace_follows known.suffixes known.state (20 - place) (20 - (place + 1)) hops more request sent c.in-Follows.view added refl ∙ c.loop-place.invariant.same;
      few = steps_on c.loop-place.steps c.add_hop.new.steps
          (c.args.steps.now + sum_by (pairs_of known.state) (requests_from known.suffixes known.state 19 c.args.hops.items c.args.request)) (pairs_of known.state request)
          (sum_by (pairs_of known.state) (requests_from known.suffixes known.state (20 - place) hops request))
          (sum_by (pairs_of known.state) (requests_from known.suffixes known.state (20 - (place + 1)) more sent)) c.in_ok-end.ensures.bound c.loop-place.invariant.few
          (sum_follows known.suffixes known.state (20 - place) (20 - (place + 1)) hops more request sent c.in-Follows.view (pairs_of known.state) added refl);
      calm = c.in_ok-end.ensures.ends ∙ c.loop-place.invariant.calm;
    }

pub returns-clause-trace : goal.returns-clause-trace
returns-clause-trace g c =
    let known = c.args.generation.now in
    trace_bound known.suffixes known.state (20 - c.loop-place.place) c.loop-place.hops.items c.build-2.result c.loop-place.request
    (trace_from known.suffixes known.state 19 c.args.hops.items c.args.request) (omega arith) c.build-2.ensures c.loop-place.invariant.same
