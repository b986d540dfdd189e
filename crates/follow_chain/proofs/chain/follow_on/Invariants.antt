use Rattle.std.proofs.Common.{◌≡◌, ◌≤◌, ◌+◌, ◌-◌, length}
use Rattle.std.specs.Prelude.{sum_by}
use Rattle.dnr_base.specs.Request.{max_frames}
use Rattle.index_spec.specs.Pairs.{pairs_of}
use Rattle.follow_spec.specs.Trace.{requests_from, trace_from}
use Rattle.follow_chain.proofs.chain.follow_on.Given as goal

abbrev pub invariant-loop-place : goal.invariant-loop-place
invariant-loop-place g l = record {
  count : length l.hops.items ≡ l.place;
  frames : length l.request.frames ≤ max_frames;
  same : trace_from l.generation.suffixes l.generation.state (20 - l.place) l.hops.items l.request
      ≡ trace_from l.generation.suffixes l.generation.state 19 l.fn.hops.items l.fn.request;
  few : l.steps + sum_by (pairs_of l.generation.state) (requests_from l.generation.suffixes l.generation.state (20 - l.place) l.hops.items l.request)
      ≤ l.fn.steps + sum_by (pairs_of l.generation.state) (requests_from l.generation.suffixes l.generation.state 19 l.fn.hops.items l.fn.request);
  calm : g.H.RegexHost.faults l.host ≡ g.H.RegexHost.faults l.fn.host;
}
