use Rattle.std.proofs.Common.{◌≡◌, ◌≤◌, ◌+◌, drop, fold}
use Rattle.std.specs.List.{sum_by}
use Rattle.generation.specs.Hits.{live_count, with_hit}
use Rattle.generation.proofs.scan.Scan.take_hits.Given as goal

abbrev pub invariant-loop-hit : goal.invariant-loop-hit
invariant-loop-hit g l = record {
  kept : fold (with_hit l.self.suffixes l.self.request l.block) l.kept (drop l.hit-index l.hits)
      ≡ fold (with_hit l.self.suffixes l.self.request l.block) l.fn.kept l.hits;
  name : l.kept.name ≡ l.fn.kept.name;
  few : l.steps + sum_by (live_count l.block) (drop l.hit-index l.hits) ≤ l.fn.steps + sum_by (live_count l.block) l.hits;
  calm : g.H.RegexHost.faults l.host ≡ g.H.RegexHost.faults l.fn.host;
}
