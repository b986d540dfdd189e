use Rattle.std.proofs.Common.{◌≡◌, ◌<◌, ℕ, length, inl, inr, ap, subst, arith}
use Rattle.std.specs.Prelude.{IfSome}
use Rattle.std.proofs.lemmas.Bool.{cases_lt}
use Rattle.dnr_base.specs.Request.{frame_part}
use Rattle.dnr_base.specs.View.{IsView}
use Rattle.generation.specs.Plain.{level_in}
use Rattle.generation.proofs.PlainHits.{frames_count, frames_next}
use Rattle.generation.proofs.plain.PlainScan.with_frames.Goals as goal

pub loop-place-preserved : goal.loop-place-preserved
loop-place-preserved g c =
    let suffixes = c.args.self.now.suffixes in
    let request = c.args.self.now.request in
    let block = c.args.block.now in
    let index = c.args.index.now in
    let place = c.loop-place.place in
    let long = ap length c.as_slice-place-end.ensures in
    let same = ap (λ r. length r.frames) c.request-request.ensures.value in
    let within : place < length request.frames = omega (arith, long, same, c.loop-place-test.true) in
    record {
      level = frames_next suffixes request block index place (level_in c.loop-place.best) (level_in c.with_frame-best.result) _ within c.with_frame-best.ensures.level c.loop-place.invariant.level;
      few = frames_count suffixes request block index place c.loop-place.steps c.with_frame-best.new.steps _ within c.with_frame-best.ensures.few c.loop-place.invariant.few;
      views = λ other less. elim (cases_lt other place) [
        | inl lower ↦ c.loop-place.invariant.views other lower
        | inr upper ↦
            let e : place ≡ other = omega (arith, upper, less) in
            subst (λ (n : ℕ). IfSome (frame_part request n) (λ part. IsView part.view)) e c.with_frame-best.ensures.view
      ];
    }
