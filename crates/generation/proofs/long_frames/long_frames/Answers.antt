use Rattle.std.proofs.Common.{◌∙◌, ap, arith, length, length-append, sym, subst}
use Rattle.generation.specs.LongFrames.{AreLong}
use Rattle.generation.proofs.LongFrames.{long_more}
use Rattle.generation.proofs.long_frames.long_frames.Goals as goal

pub loop-place-preserved : goal.loop-place-preserved
loop-place-preserved c =
    let items = c.in_ok-push.ensures.items in
    let count = ap length items ∙ length-append c.loop-place.long.items _ in (
      omega (arith, count, c.loop-place.invariant.0),
      subst (λ long. AreLong long c.args.request.now) (sym items)
          (long_more c.loop-place.long.items _ c.args.request.now c.loop-place.place c.loop-place.invariant.0 c.loop-place.invariant.1 c.in_ok-long_frame.ensures),
    )
