use Rattle.std.proofs.Common.{arith, add-one, ◌∙◌}
use Rattle.std.proofs.lemmas.Option.{slice_get-get_or}
use Rattle.std.proofs.lemmas.Grind.{common_steps}
use Rattle.swap_core.proofs.Schedules.{published_more, seen_more}
use Rattle.swap_core.proofs.machine.Machine.run.Goals as goal

pub loop-event-preserved : goal.loop-event-preserved
loop-event-preserved c =
    let before = c.loop-event.invariant in
    let at = slice_get-get_or c.args.events.now c.loop-event.event-index _ c.loop-event-test.true in record {
      published = c.step.ensures.published ∙ published_more c.args.self.now c.loop-event.self c.args.events.now _ c.loop-event.event-index at before.published;
      readers = grind (arith, common_steps);
      seen = λ reader lt.
          rw (add-one c.loop-event.event-index)
          (c.step.ensures.seen reader (omega (arith, before.readers, lt)) ∙ seen_more c.args.self.now c.loop-event.self c.args.events.now _ c.loop-event.event-index reader at before.published (before.seen reader lt));
    }
