use Rattle.std.proofs.Common.{length, ◌+◌, ◌*◌}
use Rattle.lookup_pool.proofs.tools.+seats.Given as goal

abbrev pub decreases-seats_with_tools : goal.decreases-seats_with_tools
decreases-seats_with_tools g l = 3 * length l.seats.now

abbrev pub decreases-work_beside : goal.decreases-work_beside
decreases-work_beside g l = 3 * length l.rest.now + 2

abbrev pub decreases-work_beside-join_mut+arg3 : goal.decreases-work_beside-join_mut+arg3
decreases-work_beside-join_mut+arg3 g l = 3 * length l.rest.now + 1
