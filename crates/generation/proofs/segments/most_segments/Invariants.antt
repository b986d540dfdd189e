use Rattle.std.proofs.Common.{ℕ, ◌≤◌, ◌+◌, ◌*◌, ◌^◌, length, drop}
use Rattle.std.specs.Prelude.{max}
use Rattle.std.specs.List.{flat_map}
use Rattle.generation.specs.Plain.{rules_of}
use Rattle.generation.specs.Segments.{AreMost, added_lists}
use Rattle.generation.proofs.segments.most_segments.Given as goal

abbrev pub invariant-loop-extension : goal.invariant-loop-extension
invariant-loop-extension l = record {
  most : (more : ℕ) → AreMost (added_lists (drop l.extension-index l.extensions)) more → AreMost (added_lists l.extensions) (max l.most more);
  few : 2 ^ l.most ≤ 2 * length (flat_map rules_of l.extensions) + 1;
}
