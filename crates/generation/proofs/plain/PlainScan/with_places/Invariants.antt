use Rattle.std.proofs.Common.{◌≡◌, ◌≤◌, ◌+◌, length}
use Rattle.std.specs.Prelude.{max}
use Rattle.std.specs.List.{sum_by}
use Rattle.generation.specs.Hits.{hits_by, live_count}
use Rattle.generation.specs.Plain.{hits_level, level_in}
use Rattle.generation.proofs.plain.PlainScan.with_places.Given as goal

abbrev pub invariant-loop-place : goal.invariant-loop-place
invariant-loop-place g l = record {
  level : max (level_in l.best) (hits_level l.self.suffixes l.self.request l.block (hits_by l.places l.part))
      ≡ max (level_in l.fn.best) (hits_level l.self.suffixes l.self.request l.block (hits_by l.fn.places l.part));
  few : l.steps + sum_by (live_count l.block) (hits_by l.places l.part) ≤ l.fn.steps + sum_by (live_count l.block) (hits_by l.fn.places l.part);
}

abbrev pub decreases-loop-place : goal.decreases-loop-place
decreases-loop-place g l = length l.places
