use Rattle.std.proofs.Common.{ℕ, ◌≡◌, ◌<◌, length, get_or}
use Rattle.swap_core.specs.Schedule.{published, seen}
use Rattle.swap_core.proofs.machine.Machine.run.Given as goal

abbrev pub invariant-loop-event : goal.invariant-loop-event
invariant-loop-event l = record {
  published : l.self.published ≡ published l.fn.self l.events l.event-index;
  readers : length l.self.seen ≡ length l.fn.self.seen;
  seen : (reader : ℕ) → reader < length l.fn.self.seen → get_or l.self.seen reader 0 ≡ seen l.fn.self l.events reader l.event-index;
}
