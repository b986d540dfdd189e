use Rattle.std.proofs.Common.{◌≡◌, ◌<◌, ◌++◌, ℕ, drop}
use Rattle.std.specs.Prelude.{IfSome}
use Rattle.dnr_base.specs.Request.{frame_part}
use Rattle.dnr_base.specs.View.{IsView}
use Rattle.generation.specs.Hits.{frame_hits}
use Rattle.generation.proofs.hits.push_frames.Given as goal

abbrev pub invariant-loop-place : goal.invariant-loop-place
invariant-loop-place l = record {
  hits : l.hits.items ++ frame_hits l.index.framing l.request l.place (drop l.place l.request.frames)
      ≡ l.fn.hits.items ++ frame_hits l.index.framing l.request 0 l.request.frames;
  views : (place : ℕ) → place < l.place → IfSome (frame_part l.request place) (λ part. IsView part.view);
}
