use Rattle.std.proofs.Common.{◌≡◌, ◌<◌, ◌+◌, ◌++◌, ℕ, List, length, drop, inl, inr, ◌∙◌, sym, ap, subst, arith}
use Rattle.std.specs.Prelude.{IfSome}
use Rattle.std.proofs.lemmas.Bool.{cases_lt}
use Rattle.dnr_base.specs.Request.{frame_part}
use Rattle.dnr_base.specs.View.{IsView}
use Rattle.generation.specs.Hits.{frame_hits}
use Rattle.generation.proofs.Gathered.{frames_step}
use Rattle.generation.proofs.hits.push_frames.Goals as goal

pub loop-place-preserved : goal.loop-place-preserved
loop-place-preserved c =
    let index = c.args.index.now.framing in
    let request = c.args.request.now in
    let place = c.loop-place.place in
    let long = ap length c.as_slice-place-end.ensures in
    let within : place < length request.frames = omega (arith, long, c.loop-place-test.true) in
    record {
      hits = ap (λ (l : List (ℕ × ℕ)). l ++ frame_hits index request (place + 1) (drop (place + 1) request.frames)) c.in_ok-push_frame.ensures.hits
          ∙ sym (frames_step index request c.loop-place.hits.items place within) ∙ c.loop-place.invariant.hits;
      views = λ other less. elim (cases_lt other place) [
        | inl lower ↦ c.loop-place.invariant.views other lower
        | inr upper ↦
            let e : place ≡ other = omega (arith, upper, less) in
            subst (λ (n : ℕ). IfSome (frame_part request n) (λ part. IsView part.view)) e c.push_frame.ensures.view
      ];
    }
