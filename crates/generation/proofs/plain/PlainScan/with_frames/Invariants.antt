use Rattle.std.proofs.Common.{◌≡◌, ◌≤◌, ◌<◌, ◌+◌, ℕ, drop}
use Rattle.std.specs.Prelude.{IfSome, max}
use Rattle.std.specs.List.{sum_by}
use Rattle.dnr_base.specs.Request.{frame_part}
use Rattle.dnr_base.specs.View.{IsView}
use Rattle.generation.specs.Hits.{frame_hits, live_count}
use Rattle.generation.specs.Plain.{hits_level, level_in}
use Rattle.generation.proofs.plain.PlainScan.with_frames.Given as goal

abbrev pub invariant-loop-place : goal.invariant-loop-place
invariant-loop-place g l = record {
  level : max (level_in l.best) (hits_level l.self.suffixes l.self.request l.block (frame_hits l.index.framing l.self.request l.place (drop l.place l.self.request.frames)))
      ≡ max (level_in l.fn.best) (hits_level l.self.suffixes l.self.request l.block (frame_hits l.index.framing l.self.request 0 l.self.request.frames));
  few : l.steps + sum_by (live_count l.block) (frame_hits l.index.framing l.self.request l.place (drop l.place l.self.request.frames))
      ≤ l.fn.steps + sum_by (live_count l.block) (frame_hits l.index.framing l.self.request 0 l.self.request.frames);
  views : (place : ℕ) → place < l.place → IfSome (frame_part l.self.request place) (λ part. IsView part.view);
}
