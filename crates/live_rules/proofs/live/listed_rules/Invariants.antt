use Rattle.std.proofs.Common.{◌≡◌}
use Rattle.live_rules.specs.Slots.{there}
use Rattle.live_rules.proofs.live.listed_rules.Given as goal

abbrev pub invariant-loop-slot : goal.invariant-loop-slot
invariant-loop-slot l = l.rules.items ≡ there l.yielded
