use Rattle.std.proofs.Common.{◌≡◌, ◌≤◌, ◌+◌, drop}
use Rattle.rule_segments.specs.Segments.{live_among}
use Rattle.rule_spec.specs.State.{live_with}
use Rattle.generation.specs.Hits.{pairs_by}
use Rattle.generation.proofs.Walked.{Walked}
use Rattle.generation.proofs.scan.Scan.take_segments.Given as goal

abbrev pub invariant-loop-segment : goal.invariant-loop-segment
invariant-loop-segment g l =
    Walked l.self.suffixes l.self.request l.fn.kept (live_with l.rank l.set (live_among l.segments))
    (live_with l.rank l.set (live_among (drop l.segment-index l.segments))) l.kept
    × (g.H.RegexHost.faults l.host ≡ g.H.RegexHost.faults l.fn.host)
    × (l.steps + pairs_by (live_with l.rank l.set (live_among (drop l.segment-index l.segments))) l.self.request
    ≤ l.fn.steps + pairs_by (live_with l.rank l.set (live_among l.segments)) l.self.request)
