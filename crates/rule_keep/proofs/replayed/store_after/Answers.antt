use Rattle.std.proofs.Common.{[], ◌∙◌}
use Rattle.update_spec.specs.Entries.{one, after}
use Rattle.keep_spec.specs.Kept.{empty_extension}
use Rattle.rule_keep.proofs.replayed.store_after.Goals as goal

pub loop-preserved : goal.loop-preserved
loop-preserved c = record {
  store = c.in-Ok.ensures.applied
      ∙ (λ i. after (c.loop.invariant.store i) (one (c.loop.invariant.nothing i)))
      ∙ c.made_updates_are_accepted.ensures.left (empty_extension c.args.name.now) [] [] [] c.loop.counter;
  nothing = c.loop.invariant.nothing;
}
