use Rattle.std.proofs.Common.{◌≡◌, ◌≤◌, ◌+◌, [], length, All, vec_len, vec_capacity}
use Rattle.published.specs.Pass.{HasSeenNothing}
use Rattle.published.proofs.pair.publish_pair.Given as goal

abbrev pub invariant-loop : goal.invariant-loop
invariant-loop g l = record {
  counted : l.counter ≤ l.seats;
  each : length l.passes.items + l.writer.unplaced ≡ l.counter;
  idle : (l.writer.list ≡ []) × (l.writer.staged ≡ []);
  memory : (vec_len l.passes ≤ l.counter) × (l.seats ≤ vec_capacity l.passes);
  fresh : All HasSeenNothing l.passes.items;
}
