use Rattle.std.proofs.Common.{◌≡◌, ◌≤◌, ◌+◌, drop}
use Rattle.std.specs.Prelude.{max}
use Rattle.index_spec.specs.Pairs.{pairs_of_rules}
use Rattle.rule_segments.specs.Segments.{live_among}
use Rattle.generation.specs.Plain.{greatest, level_in}
use Rattle.generation.proofs.plain.PlainScan.with_segments.Given as goal

abbrev pub invariant-loop-segment : goal.invariant-loop-segment
invariant-loop-segment g l = record {
  level : max (level_in l.best) (greatest l.self.suffixes l.self.request (live_among (drop l.segment-index l.segments)))
      ≡ max (level_in l.fn.best) (greatest l.self.suffixes l.self.request (live_among l.segments));
  few : l.steps + pairs_of_rules (live_among (drop l.segment-index l.segments)) l.self.request ≤ l.fn.steps + pairs_of_rules (live_among l.segments) l.self.request;
}
