use Rattle.std.proofs.Common.{◌≡◌, ◌-◌, vec_len}
use Rattle.session_seats.proofs.cutting.move_buffers.Given as goal

abbrev pub invariant-loop-alloc : goal.invariant-loop-alloc
invariant-loop-alloc l = l.round ≡ l.fn.round

abbrev pub decreases-loop-alloc : goal.decreases-loop-alloc
decreases-loop-alloc l = 2048 - vec_len l.buffers
