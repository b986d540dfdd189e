use Rattle.std.proofs.Common.{arith, below_more}
use Rattle.url_filter.proofs.Domains.{fails_before, fails_behind, fails_here, label_tells, none_below, start_tells, tail_slice}
use Rattle.url_filter.proofs.Pieces.{or_false}
use Rattle.url_filter.proofs.places.place_in_domain.Goals as goal
use Rattle.url_filter.proofs.places.place_in_domain.Goals.{then-text-place-eq46+in-Fails-guided_walk, else-text-place-eq46}

pub returns-in_default : goal.returns-in_default
returns-in_default c =
    start_tells c.args.ends c.args.fold c.args.pattern.now c.args.text.now c.args.host c.guided_walk.result
    (rw tail_slice at c.guided_walk.ensures) c.in_default.not-Fails

pub loop-place-init : goal.loop-place-init
loop-place-init c k less = fails_before c.args.ends c.args.fold c.args.pattern.now c.args.text.now c.args.host k (omega arith)

pub returns-in_default-guided_walk : goal.returns-in_default-guided_walk
returns-in_default-guided_walk c =
    let told = rw tail_slice at c.guided_walk-then-text-place-eq46.ensures in
    label_tells c.args.ends c.args.fold c.args.pattern.now c.args.text.now c.args.host c.loop-place.place c.guided_walk-then-text-place-eq46.result
    (record {
      start = rw tail_slice at c.in-Fails.ensures;
      none = c.loop-place.invariant;
      after = omega arith;
      within = c.loop-place-test.true;
      dot = c.if-text-place-eq46.true;
    })
    told c.in_default-guided_walk.not-Fails

pub loop-place-preserved : goal.loop-place-preserved
loop-place-preserved c =
    below_more _ _ c.loop-place.invariant (elim c.if-text-place-eq46.branch [
      | then-text-place-eq46+in-Fails-guided_walk w ↦
          fails_here c.args.ends c.args.fold c.args.pattern.now c.args.text.now c.args.host c.loop-place.place (rw tail_slice at w.in-Fails-guided_walk.ensures)
      | else-text-place-eq46 w ↦ fails_behind c.args.ends c.args.fold c.args.pattern.now c.args.text.now c.args.host c.loop-place.place w.if-text-place-eq46.false
    ])

pub returns : goal.returns
returns c =
    or_false _ _ (rw tail_slice at c.in-Fails.ensures) (none_below _ c.args.host.end (λ k less. c.loop-place.invariant k (omega arith)))
